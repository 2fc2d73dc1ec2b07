use Rattle.std.proofs.Common.{◌≡◌, Err, List, ℕ}
use Rattle.cell_io.specs.declared.whole.ReadFault.TheVariants.{Missing}
use Rattle.call_read.specs.Read.{named}
use Rattle.call_read.proofs.WholeFiles.{took_named}
use Rattle.call_read.proofs.read.read_to.Goals as goal

pub returns-in-Ok-clause-bytes : goal.returns-in-Ok-clause-bytes
returns-in-Ok-clause-bytes g c =
    took_named (g.D.Desk.view c.args.desk.now) (g.D.Desk.view c.read_into.new.desk) (named c.args.source) (λ (bytes : List ℕ). g.S.Sink.took c.args.sink.now bytes c.read_into.new.sink) (c.read_into.result ≡ Err Missing) c.file_name-name.result.now c.most_bytes.result
    c.file_name-name.ensures
    c.most_bytes.ensures.is
    c.in-Ok.ensures.file
    c.read_into.ensures.missing
    (λ missing. cc)
