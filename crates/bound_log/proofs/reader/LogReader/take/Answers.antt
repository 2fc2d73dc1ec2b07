use Rattle.std.proofs.Common.{rules, ◌≡◌, ◌≢◌, None, ap, sym, ◌∙◌}
use Rattle.std.proofs.lemmas.Result.{err_from_is_err_and}
use Rattle.bound_log.specs.declared.item.LogPlace.TheVariants as place
use Rattle.bound_log.specs.Pieces.{Reader, told}
use Rattle.bound_log.proofs.Tales.{one_fault, one_line}
use Rattle.bound_log.proofs.reader.LogReader.take.Goals as goal

pub returns-in_err-said-clause-fault : goal.returns-in_err-said-clause-fault
returns-in_err-said-clause-fault c =
    let none : c.args.self.now.fault ≡ None = search rules in
    let more : c.args.self.now.place ≢ place.Behind = search rules in
    let p = err_from_is_err_and c.from_residual.result c.from_residual.ensures.1 in
    rw (p.1, p.2) (λ other. one_fault c.args.self.now c.args.part.now c.in-Some-find_feed.at c.in_err-said.field-0.0 c.in-Some-find_feed.ensures none more c.in_err-said.ensures.short (c.in_err-said.ensures.fault other) ∙ sym (c.in_err-said.ensures.refused other))

pub returns-clause-item : goal.returns-clause-item
returns-clause-item c =
    let none : c.args.self.now.fault ≡ None = search rules in
    let more : c.args.self.now.place ≢ place.Behind = search rules in
    one_line c.args.self.now c.args.part.now c.in-Some-find_feed.at c.in_ok-said.said c.in-Some-find_feed.ensures none more c.in_ok-said.ensures.short c.in_ok-said.ensures.said
    ∙ ap (λ (r : Reader). record { items = told c.in_ok-said.said.item; reader = r }) (sym c.in_ok-said.ensures.behind)
