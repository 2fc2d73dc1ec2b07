-- Lemmas that are justified one after the other.
use Rattle.std.proofs.Common.{ℕ, zero, suc, ◌<◌, ◌≤◌, List, [], ◌∷◌, length, take, get_or, subst, arith, All, add-one}
use Rattle.std.proofs.lemmas.List.Elements.{All-nil, All-more}
use Rattle.cell_num.specs.declared.finger.Row.{Row}
use Rattle.cell_num.specs.declared.net.Pins.{Pins}
use Rattle.row_state.specs.declared.kind.Kinds.{Kinds}
use Rattle.row_state.specs.declared.state.State.{State}
use Rattle.track_ways.specs.declared.lemma.TrackLemma.{TrackLemma}
use Rattle.track_ways.specs.Certificate.{IsJustifiedBy, IsValid}
use Rattle.track_ways.specs.Lines.{LineRule}
use Rattle.track_check.specs.Refusal.{AreJustifiedBelow}

-- those before a place are valid
pub valid_below : (rule : LineRule) (value : Row → State → Kinds → ℕ) (pins : Pins) (limit : ℕ) (k : Kinds) (lemmas : List TrackLemma) (n : ℕ) → n ≤ length lemmas → AreJustifiedBelow rule value pins limit k lemmas n → All (IsValid pins k) (take n lemmas)
valid_below rule value pins limit k lemmas zero within h = All-nil (IsValid pins k)
valid_below rule value pins limit k [] (suc n) within h = absurd (omega (arith, within))
valid_below rule value pins limit k (x ∷ xs) (suc n) within h =
    let before : All (IsValid pins k) (take n (x ∷ xs)) = valid_below rule value pins limit k (x ∷ xs) n (omega (arith, within)) (λ i d below. h i d (omega (arith, below))) in
    let at : n < length (x ∷ xs) = omega (arith, within) in
    let here : IsJustifiedBy rule value pins limit k (take n (x ∷ xs)) (get_or (x ∷ xs) n x) = h n x (omega arith) in
    subst (λ m. All (IsValid pins k) (take m (x ∷ xs))) (add-one n) (All-more (IsValid pins k) (x ∷ xs) n x at before here.valid)
