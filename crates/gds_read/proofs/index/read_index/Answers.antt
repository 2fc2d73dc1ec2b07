use Rattle.std.proofs.Common.{rules, sym, ◌≡◌, ◌∙◌}
use Rattle.gds_record.specs.Records.{item_of}
use Rattle.gds_record.proofs.Walks.{moves}
use Rattle.gds_read.specs.Structure.{trimmed}
use Rattle.gds_read.proofs.Indexed.{all_met, named_more}
use Rattle.gds_read.proofs.index.read_index.Goals as goal

pub returns-in_default : goal.returns-in_default
returns-in_default c = all_met c.args.bytes.now c.records.index c.records.at c.in_default.field-0 (sym c.in_default.ensures) c.records.invariant.1

pub records-preserved-in_ok-add_structure : goal.records-preserved-in_ok-add_structure
records-preserved-in_ok-add_structure c =
    let within = (moves c.args.bytes.now c.records.at c.in-Ok.rec (sym c.in-Ok.ensures)).within in
    let is : c.trim-name.result.now ≡ trimmed (item_of c.args.bytes.now c.in-Ok.rec).content = search rules in
    (within, named_more c.args.bytes.now c.records.index c.add_structure.new.index c.records.at c.in-Ok.rec c.trim-name.result.now (sym c.in-Ok.ensures) within (c.if-rec-number.true ∙ c.number.ensures) is c.in_ok-add_structure.ensures c.records.invariant.1)
