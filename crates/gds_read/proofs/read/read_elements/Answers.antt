use Rattle.std.proofs.Common.{Ok, Err, true, subst, ◌≡◌, ◌∙◌}
use Rattle.std.proofs.lemmas.Result.{err_from_is_err_and}
use Rattle.gds_record.specs.Records.{items_from}
use Rattle.gds_area.specs.declared.progress.Progress.{Progress}
use Rattle.gds_area.specs.Progress.{no_progress, amount, Adds}
use Rattle.gds_read.specs.Index.{drawing_places}
use Rattle.gds_read.specs.Flat.{listed_in}
use Rattle.gds_read.proofs.Drawings.{own, gives_fault}
use Rattle.gds_read.proofs.Listed.{drawn_listed, gives_listed}
use Rattle.gds_read.proofs.read.read_elements.Goals as goal

pub returns-in_err-add_elements : goal.returns-in_err-add_elements
returns-in_err-add_elements c =
    let listed : c.as_slice.result.now ≡ drawing_places true (items_from c.args.bytes.now c.args.place) = c.as_slice.ensures.value ∙ c.in_ok-places.ensures in
    let adds : Adds (Err c.in_err-add_elements.field-0.0) no_progress c.add_elements.new.progress (listed_in c.args.bytes.now (own c.args.grid.now) 0 c.as_slice.result.now) =
    subst (λ (t : Progress). Adds (Err c.in_err-add_elements.field-0.0) t c.add_elements.new.progress (listed_in c.args.bytes.now (own c.args.grid.now) (amount t) c.as_slice.result.now)) c.no_progress-progress.ensures c.in_err-add_elements.ensures.adds in
    let p = err_from_is_err_and c.from_residual-in_err-add_elements.result c.from_residual-in_err-add_elements.ensures.1 in
    rw (p.1, p.2) (gives_fault c.args.bytes.now c.args.grid.now c.args.place c.add_elements.new.progress c.in_err-add_elements.field-0.0 (drawn_listed c.args.bytes.now c.args.grid.now c.args.place c.as_slice.result.now c.add_elements.new.progress (Err c.in_err-add_elements.field-0.0) listed adds))

pub returns : goal.returns
returns c =
    let listed : c.as_slice.result.now ≡ drawing_places true (items_from c.args.bytes.now c.args.place) = c.as_slice.ensures.value ∙ c.in_ok-places.ensures in
    let adds : Adds (Ok tt) no_progress c.add_elements.new.progress (listed_in c.args.bytes.now (own c.args.grid.now) 0 c.as_slice.result.now) =
    subst (λ (t : Progress). Adds (Ok tt) t c.add_elements.new.progress (listed_in c.args.bytes.now (own c.args.grid.now) (amount t) c.as_slice.result.now)) c.no_progress-progress.ensures c.in_ok-add_elements.ensures.adds in
    gives_listed c.args.bytes.now c.args.grid.now c.args.place c.as_slice.result.now c.add_elements.new.progress listed adds
