use Rattle.lc_object.specs.View.{names_of}
use Rattle.lc_reading.specs.TableView.{listed}
use Rattle.lc_object_text.specs.Declaring.{section_parts}
use Rattle.lc_object_text.proofs.declaring.read_section.Goals as goal
use Rattle.lc_reading.proofs.Parts.{behind_read, behind_wrong}

pub returns : goal.returns
returns c = behind_read (λ names. names_of names.items) c.args.word.now (section_parts (listed c.args.reader.now.names.now) c.args.reader.now.base) c.args.part c.in_ok-parts.parts _ c.in_ok-parts.ensures c.read_placed.ensures

pub returns-in_err-parts : goal.returns-in_err-parts
returns-in_err-parts c = behind_wrong (λ names. names_of names.items) c.args.word.now (section_parts (listed c.args.reader.now.names.now) c.args.reader.now.base) c.args.part _ _ c.in_err-parts.ensures c.from_residual.ensures.1
