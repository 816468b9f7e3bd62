-- What a certificate stands for.
use Rattle.std.specs.Prelude.{List}
use Rattle.lc_cert.specs.Certificates.{Entry}
use Rattle.lc_cert.specs.EntryView.{entries_of}
use Rattle.lc_cert.specs.declared.certificate.Certificate.{Certificate}

abbrev pub entries_in : Certificate → List Entry
entries_in c = entries_of c.entries.items
