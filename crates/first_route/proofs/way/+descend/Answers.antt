use Rattle.std.proofs.Common.{rules, ℕ, ◌≡◌, ◌<◌, ◌+◌, ◌++◌, ◌∷◌, [], true, false, List, sym, ap, subst, length, arith, ◌∙◌}
use Rattle.std.proofs.lemmas.Result.{err_from_is_err_and}
use Rattle.channel_route.specs.declared.constraint.Constraint.{Constraint}
use Rattle.channel_route.specs.declared.wire.Wire.{Wire}
use Rattle.channel_route.specs.declared.wire.PlacedWire.{PlacedWire}
use Rattle.first_route.specs.Tries.{tries}
use Rattle.first_route.specs.Ways.{on_track, fits, is_open, AreFirst}
use Rattle.first_route.proofs.Openings.{closed_fails}
use Rattle.first_route.proofs.Steps.{FailBelow, none_long, none_left, found_first}
use Rattle.first_route.proofs.Tries.{AreTried, tried_all, closed_tries, spent_put, spent_rest}
use Rattle.first_route.proofs.way.+descend.Goals as goal

pub returns-then-not-is_open-clause-fails : goal.returns-then-not-is_open-clause-fails
returns-then-not-is_open-clause-fails t c =
    let closed : is_open c.args.channel.now.constraints.now c.args.channel.now.tracks c.args.placed.now.items c.args.left.now ≡ false = search rules in
    λ _. closed_fails c.args.channel.now.constraints.now c.args.channel.now.tracks c.args.placed.now.items c.args.left.now closed

pub returns-in_default-clause-found : goal.returns-in_default-clause-found
returns-in_default-clause-found t c =
    let zero' : length c.args.left.now ≡ 0 = search rules in
    let none : c.args.left.now ≡ [] = none_long c.args.left.now zero' in
    let open' : is_open c.args.channel.now.constraints.now c.args.channel.now.tracks c.args.placed.now.items c.args.left.now ≡ true = search rules in
    λ _. subst (λ (ws : List Wire). AreFirst c.args.channel.now.constraints.now c.args.channel.now.tracks c.args.placed.now.items ws c.args.placed.now.items) (sym none)
    (none_left c.args.channel.now.constraints.now c.args.channel.now.tracks c.args.placed.now.items (subst (λ (ws : List Wire). is_open c.args.channel.now.constraints.now c.args.channel.now.tracks c.args.placed.now.items ws ≡ true) none open'))

pub returns-then-branch-clause-found : goal.returns-then-branch-clause-found
returns-then-branch-clause-found t c =
    let cs : List Constraint = c.args.channel.now.constraints.now in
    let tracks : ℕ = c.args.channel.now.tracks in
    let before : List PlacedWire = c.args.placed.now.items in
    let first : Wire = c.in-Some.first.now in
    let rest : List Wire = c.in-Some.rest.now in
    let whole : c.args.left.now ≡ first ∷ rest = search rules in
    let same : c.loop-track.placed.items ≡ before = c.loop-track.invariant.0 in
    let below : FailBelow cs tracks before first rest c.loop-track.track = subst (λ (ts : List PlacedWire). FailBelow cs tracks ts first rest c.loop-track.track) same c.loop-track.invariant.1 in
    let fit : fits cs c.loop-track.placed.items (on_track first c.loop-track.track) ≡ true = search rules in
    let pushed : c.put.new.placed.items ≡ c.loop-track.placed.items ++ on_track first c.loop-track.track ∷ [] = search rules in
    let found : AreFirst cs tracks c.put.new.placed.items rest c.descend.new.placed.items = search rules in
    let inner : AreFirst cs tracks (before ++ on_track first c.loop-track.track ∷ []) rest c.descend.new.placed.items = subst (λ (ts : List PlacedWire). AreFirst cs tracks (ts ++ on_track first c.loop-track.track ∷ []) rest c.descend.new.placed.items) same (subst (λ (ts : List PlacedWire). AreFirst cs tracks ts rest c.descend.new.placed.items) pushed found) in
    let less : c.loop-track.track < tracks = search rules in
    λ _. subst (λ (ws : List Wire). AreFirst cs tracks before ws c.descend.new.placed.items) (sym whole) (found_first cs tracks before c.descend.new.placed.items first rest c.loop-track.track less below (subst (λ (ts : List PlacedWire). fits cs ts (on_track first c.loop-track.track) ≡ true) same fit) inner)

pub returns-then-not-is_open-clause-tried : goal.returns-then-not-is_open-clause-tried
returns-then-not-is_open-clause-tried t c =
    let closed : is_open c.args.channel.now.constraints.now c.args.channel.now.tracks c.args.placed.now.items c.args.left.now ≡ false = search rules in
    let none : tries c.args.channel.now.constraints.now c.args.channel.now.tracks c.args.placed.now.items c.args.left.now ≡ 0 = closed_tries c.args.channel.now.constraints.now c.args.channel.now.tracks c.args.placed.now.items c.args.left.now closed in
    λ _. omega (arith, none)

pub returns-in_err-put-clause-more : goal.returns-in_err-put-clause-more
returns-in_err-put-clause-more t c =
    let cs : List Constraint = c.args.channel.now.constraints.now in
    let tracks : ℕ = c.args.channel.now.tracks in
    let before : List PlacedWire = c.args.placed.now.items in
    let first : Wire = c.in-Some.first.now in
    let rest : List Wire = c.in-Some.rest.now in
    let whole : c.args.left.now ≡ first ∷ rest = search rules in
    let same : c.loop-track.placed.items ≡ before = c.loop-track.invariant.0 in
    let tried : AreTried cs tracks before first rest c.loop-track.track c.args.budget.now c.loop-track.budget = subst (λ (ts : List PlacedWire). AreTried cs tracks ts first rest c.loop-track.track c.args.budget.now c.loop-track.budget) same c.loop-track.invariant.3 in
    let fit : fits cs c.loop-track.placed.items (on_track first c.loop-track.track) ≡ true = search rules in
    let open' : is_open cs tracks before c.args.left.now ≡ true = search rules in
    let less : c.loop-track.track < tracks = search rules in
    let p = err_from_is_err_and c.from_residual.result c.from_residual.ensures.1 in
    rw (p.1, p.2) (λ e. subst (λ (ws : List Wire). c.args.budget.now < tries cs tracks before ws) (sym whole)
    (spent_put cs tracks before first rest c.loop-track.track c.args.budget.now c.loop-track.budget (subst (λ (ws : List Wire). is_open cs tracks before ws ≡ true) whole open') tried (subst (λ (ts : List PlacedWire). fits cs ts (on_track first c.loop-track.track) ≡ true) same fit) less (c.in_err-put.ensures.none e)))

pub returns-in_err-descend-clause-more : goal.returns-in_err-descend-clause-more
returns-in_err-descend-clause-more t c =
    let cs : List Constraint = c.args.channel.now.constraints.now in
    let tracks : ℕ = c.args.channel.now.tracks in
    let before : List PlacedWire = c.args.placed.now.items in
    let first : Wire = c.in-Some.first.now in
    let rest : List Wire = c.in-Some.rest.now in
    let whole : c.args.left.now ≡ first ∷ rest = search rules in
    let same : c.loop-track.placed.items ≡ before = c.loop-track.invariant.0 in
    let tried : AreTried cs tracks before first rest c.loop-track.track c.args.budget.now c.loop-track.budget = subst (λ (ts : List PlacedWire). AreTried cs tracks ts first rest c.loop-track.track c.args.budget.now c.loop-track.budget) same c.loop-track.invariant.3 in
    let fit : fits cs c.loop-track.placed.items (on_track first c.loop-track.track) ≡ true = search rules in
    let open' : is_open cs tracks before c.args.left.now ≡ true = search rules in
    let less : c.loop-track.track < tracks = search rules in
    let one : c.loop-track.budget ≡ c.put.new.budget + 1 = search rules in
    let pushed : c.put.new.placed.items ≡ c.loop-track.placed.items ++ on_track first c.loop-track.track ∷ [] = search rules in
    let after' : tries cs tracks c.put.new.placed.items rest ≡ tries cs tracks (before ++ on_track first c.loop-track.track ∷ []) rest = ap (λ (ts : List PlacedWire). tries cs tracks ts rest) pushed ∙ ap (λ (ts : List PlacedWire). tries cs tracks (ts ++ on_track first c.loop-track.track ∷ []) rest) same in
    let p = err_from_is_err_and c.from_residual-in_err-descend.result c.from_residual-in_err-descend.ensures.1 in
    rw (p.1, p.2) (λ e. subst (λ (ws : List Wire). c.args.budget.now < tries cs tracks before ws) (sym whole)
    (spent_rest cs tracks before first rest c.loop-track.track c.args.budget.now c.loop-track.budget c.put.new.budget (subst (λ (ws : List Wire). is_open cs tracks before ws ≡ true) whole open') tried (subst (λ (ts : List PlacedWire). fits cs ts (on_track first c.loop-track.track) ≡ true) same fit) less one (subst (λ (n : ℕ). c.put.new.budget < n) after' (c.in_err-descend.ensures.more e))))

pub returns-clause-tried : goal.returns-clause-tried
returns-clause-tried t c =
    let cs : List Constraint = c.args.channel.now.constraints.now in
    let tracks : ℕ = c.args.channel.now.tracks in
    let before : List PlacedWire = c.args.placed.now.items in
    let first : Wire = c.in-Some.first.now in
    let rest : List Wire = c.in-Some.rest.now in
    let whole : c.args.left.now ≡ first ∷ rest = search rules in
    let same : c.loop-track.placed.items ≡ before = c.loop-track.invariant.0 in
    let tried : AreTried cs tracks before first rest c.loop-track.track c.args.budget.now c.loop-track.budget = subst (λ (ts : List PlacedWire). AreTried cs tracks ts first rest c.loop-track.track c.args.budget.now c.loop-track.budget) same c.loop-track.invariant.3 in
    let open' : is_open cs tracks before c.args.left.now ≡ true = search rules in
    let end : c.loop-track.track ≡ tracks = search rules in
    λ _. subst (λ (ws : List Wire). c.args.budget.now ≡ c.loop-track.budget + tries cs tracks before ws) (sym whole) (tried_all cs tracks before first rest c.loop-track.track c.args.budget.now c.loop-track.budget (subst (λ (ws : List Wire). is_open cs tracks before ws ≡ true) whole open') end tried)
