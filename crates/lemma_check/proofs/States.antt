-- Two states are the same where their fields are.
use Rattle.std.proofs.Common.{◌≡◌, Bool, true, ◌&&◌, Option, Some, None, refl, ap, subst}
use Rattle.std.specs.Str.{bytes_eq}
use Rattle.std.proofs.lemmas.Slice.Eq.{bytes_eq-Decides}
use Rattle.row_model.proofs.Decide.{net_decides}
use Rattle.std.proofs.lemmas.Bool.{and_from, and_parts, eq-eqb}
use Rattle.cell_num.specs.declared.net.NetNo.{NetNo}
use Rattle.row_state.specs.declared.state.State.{State}
use Rattle.row_state.specs.Decoded.{same_fields}
use Rattle.lemma_check.specs.Reaches.{same_end, same_state}

same_end_is : (x y : Option NetNo) → same_end x y ≡ true → x ≡ y
same_end_is None None h = refl
same_end_is None (Some b) h = cc
same_end_is (Some a) None h = cc
same_end_is (Some a) (Some b) h = ap (λ (n : NetNo). Some n) ((net_decides a b).0 h)

same_state_but_n : State → State → Bool
same_state_but_n a b = bytes_eq a.p_left b.p_left && bytes_eq a.n_left b.n_left && same_end a.p_end b.p_end

pub same_state_is : (a b : State) → same_state a b ≡ true → a ≡ b
unfolding same_state_but_n
same_state_is a b h =
    let parts : (same_state_but_n a b ≡ true) × (same_end a.n_end b.n_end ≡ true) = and_parts _ _ h in
    let parts' : (bytes_eq a.p_left b.p_left && bytes_eq a.n_left b.n_left ≡ true) × (same_end a.p_end b.p_end ≡ true) = and_parts _ _ parts.0 in
    let parts'' : (bytes_eq a.p_left b.p_left ≡ true) × (bytes_eq a.n_left b.n_left ≡ true) = and_parts _ _ parts'.0 in
    same_fields a b ((bytes_eq-Decides a.p_left b.p_left).0 parts''.0) ((bytes_eq-Decides a.n_left b.n_left).0 parts''.1) (same_end_is a.p_end b.p_end parts'.1) (same_end_is a.n_end b.n_end parts.1)

same_end_self : (x : Option NetNo) → same_end x x ≡ true
same_end_self None = refl
same_end_self (Some a) = eq-eqb a.0 a.0 refl

pub same_state_from : (a b : State) → a ≡ b → same_state a b ≡ true
same_state_from a b e =
    subst (λ (z : State). same_state a z ≡ true) e
    (and_from _ _ (and_from _ _ (and_from _ _ ((bytes_eq-Decides a.p_left a.p_left).1 refl) ((bytes_eq-Decides a.n_left a.n_left).1 refl)) (same_end_self a.p_end)) (same_end_self a.n_end))
