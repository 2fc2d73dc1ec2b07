-- Choices that are added one after the other, and fingers whose nets fit their places.
use Rattle.std.proofs.Common.{ℕ, ◌≡◌, ◌+◌, ◌<◌, ◌++◌, List, [], ◌∷◌, length, take, get_or, append-nil, sym, ap, ◌∙◌, All}
use Rattle.std.specs.List.{filter, flat_map}
use Rattle.std.proofs.lemmas.Grind.{flat_map-append}
use Rattle.std.proofs.lemmas.List.{take_more}
use Rattle.std.proofs.lemmas.List.Sums.{fold-append}
use Rattle.cell_num.specs.declared.finger.Fingers.{Fingers}
use Rattle.cell_num.specs.declared.finger.Row.{Row}
use Rattle.cell_num.specs.declared.finger.Row.TheVariants.{P, N}
use Rattle.cell_num.specs.Fingers.{AreFingers}
use Rattle.trail_state.specs.Choices.{is_on}
use Rattle.trail_state.specs.Pairings.{HasSmallEnds}
use Rattle.trail_state.proofs.Small.{n_small, p_small}
use Rattle.open_gates.specs.Open.{fingers_at, fingers_beside}
use Rattle.trail_halves.specs.declared.choice.OpenChoice.{OpenChoice}
use Rattle.trail_pools.specs.Choices.{with_all, with_new}

pub each_added : {X : Type 0} (f : X → List OpenChoice) (xs : List X) (i : ℕ) (d : X) (old now new : List OpenChoice) → i < length xs → now ≡ with_all old (flat_map f (take i xs)) → new ≡ with_all now (f (get_or xs i d)) → new ≡ with_all old (flat_map f (take (i + 1) xs))
each_added f xs i d old now new within before is =
    let more : flat_map f (take (i + 1) xs) ≡ flat_map f (take i xs) ++ f (get_or xs i d) =
    ap (flat_map f) (take_more xs i d within) ∙ flat_map-append f (take i xs) (get_or xs i d ∷ []) ∙ ap (λ l. flat_map f (take i xs) ++ l) (append-nil (f (get_or xs i d))) in
    is ∙ ap (λ l. with_all l (f (get_or xs i d))) before ∙ sym (fold-append with_new old (flat_map f (take i xs)) (f (get_or xs i d))) ∙ ap (with_all old) (sym more)

pub at_small : (r : Row) (g : ℕ) (f : Fingers) → AreFingers f → All HasSmallEnds (filter (is_on g) (fingers_at r f))
at_small P g f ok = p_small g f ok
at_small N g f ok = n_small g f ok

pub beside_small : (r : Row) (g : ℕ) (f : Fingers) → AreFingers f → All HasSmallEnds (filter (is_on g) (fingers_beside r f))
beside_small P g f ok = n_small g f ok
beside_small N g f ok = p_small g f ok
