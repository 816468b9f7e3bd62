use Rattle.lc_cert.proofs.Back.{certificate_back}
use Rattle.lc_cert.proofs.Kept.{certified_back}
use Rattle.lc_cert.proofs.laws.printed_certificates_read_back.Goals as goal

pub returns : goal.returns
returns c = record { read = certified_back; made = certificate_back }
