use Rattle.std.proofs.Common.{◌≡◌, ℕ, List, [], Option, ◌∙◌}
use Rattle.lincheck.specs.Reading.{OfFile, within_limit}
use Rattle.lincheck.proofs.Read.{read_so}
use Rattle.lincheck.proofs.reading.read_file.Goals as goal

same : (known : Option (List ℕ)) (items bytes : List ℕ) → items ≡ bytes → OfFile known (λ file. bytes ≡ within_limit file) → OfFile known (λ file. items ≡ within_limit file)
same known items bytes e h = read_so known h (λ file h. e ∙ h)

pub returns-clause-bytes : goal.returns-clause-bytes
returns-clause-bytes g c =
    let fed = c.in_ok-feed_file.ensures.fed in
    same (g.F.Files.bytes_at c.args.files.now c.args.path.now) c.feed_file.new.sink.items fed.0 (fed.1 tt [] c.new-bytes.ensures.items) fed.2
