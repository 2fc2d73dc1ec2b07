use Rattle.std.proofs.Common.{rules, sym, ◌≡◌, ◌∙◌, true, false}
use Rattle.gds_record.specs.Records.{items_from}
use Rattle.gds_record.specs.Types.{type_numbered}
use Rattle.gds_record.proofs.Walks.{moves}
use Rattle.gds_read.specs.Index.{draws, drawing_places}
use Rattle.gds_read.proofs.Listed.{ends_none, ends_there, one_place_more, passed_over}
use Rattle.gds_read.proofs.index.places_of.Goals as goal

pub returns-in_default : goal.returns-in_default
returns-in_default c = ends_none c.args.bytes.now c.args.labels c.records.places.items (drawing_places c.args.labels (items_from c.args.bytes.now c.args.place)) c.records.at c.in_default.field-0 (sym c.in_default.ensures) c.records.invariant.1

pub returns-then-rec-number : goal.returns-then-rec-number
returns-then-rec-number c = ends_there c.args.bytes.now c.args.labels c.records.places.items (drawing_places c.args.labels (items_from c.args.bytes.now c.args.place)) c.records.at c.in-Ok.rec (sym c.in-Ok.ensures) (c.if-rec-number.true ∙ c.number.ensures) c.records.invariant.1

pub records-preserved-in_ok-push_place : goal.records-preserved-in_ok-push_place
records-preserved-in_ok-push_place c =
    let drawn : draws c.args.labels (type_numbered c.in-Ok.rec.code) (items_from c.args.bytes.now c.in-Ok.rec.next) ≡ true = search rules in (
      (moves c.args.bytes.now c.records.at c.in-Ok.rec (sym c.in-Ok.ensures)).within,
      one_place_more c.args.bytes.now c.args.labels c.records.places.items c.push_place.new.places.items (drawing_places c.args.labels (items_from c.args.bytes.now c.args.place)) c.records.at c.in-Ok.rec (sym c.in-Ok.ensures)
          (λ e. c.if-rec-number.false (e ∙ sym c.number.ensures)) drawn c.in_ok-push_place.ensures c.records.invariant.1,
    )

pub records-preserved : goal.records-preserved
records-preserved c =
    let idle : draws c.args.labels (type_numbered c.in-Ok.rec.code) (items_from c.args.bytes.now c.in-Ok.rec.next) ≡ false = search rules in (
      (moves c.args.bytes.now c.records.at c.in-Ok.rec (sym c.in-Ok.ensures)).within,
      passed_over c.args.bytes.now c.args.labels c.records.places.items (drawing_places c.args.labels (items_from c.args.bytes.now c.args.place)) c.records.at c.in-Ok.rec (sym c.in-Ok.ensures)
          (λ e. c.if-rec-number.false (e ∙ sym c.number.ensures)) idle c.records.invariant.1,
    )
