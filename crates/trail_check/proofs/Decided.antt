-- The test of the gates decides whether the order and the gates that are left open are as asked.
use Rattle.std.specs.Prelude.{ℕ, ◌≡◌, ◌≢◌, ◌<◌, ◌==◌, ◌↔◌, ◌⊎◌, true, IsTrue, List, [], ◌∷◌, All, AllPairs, Contains}
use Rattle.std.specs.Bool.{Decides}
use Rattle.std.specs.List.{list_all, list_any}
use Rattle.std.proofs.Common.{refl, sym, subst, arith, inl, inr}
use Rattle.std.proofs.lemmas.Bool.{cases_Bool, cases_eq, eq-eqb, eqb-true}
use Rattle.std.proofs.lemmas.Bool.Decides.{Decides-and, Decides-by_and, Decides-like, Decides-ltb, Decides-not, Decides-or}
use Rattle.std.proofs.lemmas.List.Elements.{All-contains}
use Rattle.std.proofs.lemmas.List.Kept.{AllPairs-cons}
use Rattle.cell_num.specs.declared.net.NetNo.{NetNo}
use Rattle.cell_num.specs.declared.finger.Finger.{Finger}
use Rattle.cell_num.specs.declared.finger.Fingers.{Fingers}
use Rattle.cell_num.specs.Fingers.{on_gate}
use Rattle.cell_num.proofs.Lists.{all_from_contains}
use Rattle.cell_num.proofs.Pairs.{Some', count_there, none_counted, pairs_head, pairs_none, pairs_tail, test_finds, test_there}
use Rattle.trail_log.specs.declared.trails.TrailCertificate.{TrailCertificate}
use Rattle.trail_state.specs.Choices.{is_on}
use Rattle.trail_state.specs.Levels.{IsGate, IsOrder}
use Rattle.open_gates.proofs.Decided.{open_decides}
use Rattle.trail_check.specs.Gates.{AreGates}
use Rattle.trail_check.specs.Leveled.{open_of}
use Rattle.trail_check.specs.Tests.{are_once, are_ordered, gates_test, has_gate, is_gate, is_order}

-- ---- what a list of gates has

has_decides : (gates : List NetNo) (gate : NetNo) → Decides (has_gate gates gate.0) (Contains gates gate)
has_decides gates gate = (from, λ there. test_there (λ (g : NetNo). g.0 == gate.0) gates gate there (eq-eqb gate.0 gate.0 refl))
  where
    from : has_gate gates gate.0 ≡ true → Contains gates gate
    from h =
        let found : Some' (λ (g : NetNo). (g.0 == gate.0) ≡ true) gates = test_finds (λ (g : NetNo). g.0 == gate.0) gates h in
        let same : found.it.0 ≡ gate.0 = eqb-true found.it.0 gate.0 found.holds in
        subst (Contains gates) (λ i. record { 0 = same i }) found.there

abbrev Differ : NetNo → NetNo → Type 0
Differ a b = a.0 ≢ b.0

once_decides : (gates : List NetNo) → Decides (are_once gates) (AllPairs Differ gates)
once_decides [] = (λ _. pairs_none Differ, λ _. refl)
once_decides (g ∷ gs) =
    Decides-like _ (λ both. AllPairs-cons Differ g gs (apart both.0) both.1) (λ pairs. (none (pairs_head Differ g gs pairs), pairs_tail Differ g gs pairs))
    (Decides-and _ _ (Decides-not (has_gate gs g.0) (has_decides gs g)) (once_decides gs))
  where
    apart : (Contains gs g → ⊥) → All (Differ g) gs
    apart out = all_from_contains (Differ g) gs (λ h there same. out (subst (Contains gs) (λ i. record { 0 = sym same i }) there))

    none : All (Differ g) gs → Contains gs g → ⊥
    none all there = All-contains (Differ g) gs g all there refl

gate_decides : (f : Fingers) (g : NetNo) → Decides (is_gate f g) (IsGate f g.0)
gate_decides f g =
    Decides-like _ (λ some. either some) split (Decides-or _ _ (Decides-ltb 0 (on_gate g.0 f.p)) (Decides-ltb 0 (on_gate g.0 f.n)))
  where
    either : (0 < on_gate g.0 f.p) ⊎ (0 < on_gate g.0 f.n) → IsGate f g.0
    either (inl p) = omega (arith, p)
    either (inr n) = omega (arith, n)

    split : IsGate f g.0 → (0 < on_gate g.0 f.p) ⊎ (0 < on_gate g.0 f.n)
    split some = elim (cases_eq (on_gate g.0 f.p) 0) [ inl none ↦ inr (omega (arith, some, none)) | inr p ↦ inl (omega (arith, p)) ]

-- ---- each gate of a finger

-- a finger on the gate
finger_on : (gate : ℕ) (fs : List Finger) → 0 < on_gate gate fs → Some' (λ (x : Finger). is_on gate x ≡ true) fs
finger_on gate fs some =
    elim (cases_Bool (list_any (is_on gate) fs)) [
      | inl on ↦ test_finds (is_on gate) fs on
      | inr off ↦ absurd (omega (arith, some, none_counted (is_on gate) fs off))
    ]

counted_on : (x : Finger) (fs : List Finger) → Contains fs x → 0 < on_gate x.gate.0 fs
counted_on x fs there = count_there (is_on x.gate.0) fs x there (eq-eqb x.gate.0 x.gate.0 refl)

-- what holds of the gate of each finger of both rows holds of each gate of one
each_gate : (P : NetNo → Type 0) (f : Fingers) → All (λ (x : Finger). P x.gate) f.p → All (λ (x : Finger). P x.gate) f.n → (g : NetNo) → IsGate f g.0 → P g
each_gate P f in_p in_n g some =
    elim (cases_eq (on_gate g.0 f.p) 0) [
      | inl none ↦ by f.n in_n (omega (arith, some, none))
      | inr p ↦ by f.p in_p (omega (arith, p))
    ]
  where
    by : (fs : List Finger) → All (λ (x : Finger). P x.gate) fs → 0 < on_gate g.0 fs → P g
    by fs all on =
        let found : Some' (λ (x : Finger). is_on g.0 x ≡ true) fs = finger_on g.0 fs on in
        let same : found.it.gate.0 ≡ g.0 = eqb-true found.it.gate.0 g.0 found.holds in
        subst P (λ i. record { 0 = same i }) (All-contains (λ (x : Finger). P x.gate) fs found.it all found.there)

of_gates : (P : NetNo → Type 0) (f : Fingers) → ((g : NetNo) → IsGate f g.0 → P g) → All (λ (x : Finger). P x.gate) f.p × All (λ (x : Finger). P x.gate) f.n
of_gates P f h = (
  all_from_contains (λ (x : Finger). P x.gate) f.p (λ x there. h x.gate (omega (arith, counted_on x f.p there))),
  all_from_contains (λ (x : Finger). P x.gate) f.n (λ x there. h x.gate (omega (arith, counted_on x f.n there))),
)

-- ---- the order

ordered_decides : (order : List NetNo) (fs : List Finger) → Decides (are_ordered order fs) (All (λ (x : Finger). Contains order x.gate) fs)
ordered_decides order fs =
    Decides-by_and (λ (x : Finger). has_gate order x.gate.0) (λ (x : Finger). Contains order x.gate) (list_all (λ (x : Finger). has_gate order x.gate.0)) (λ x. has_decides order x.gate) refl (λ _ _. refl) fs

order_decides : (f : Fingers) (order : List NetNo) → Decides (is_order f order) (IsOrder f order)
order_decides f order =
    Decides-like _
    (λ is. record { once = is.0.0.0; gates = is.0.0.1; all_gates = each_gate (Contains order) f is.0.1 is.1 })
    (λ is. let rows = of_gates (Contains order) f is.all_gates in (((is.once, is.gates), rows.0), rows.1))
    (Decides-and _ _ (Decides-and _ _ (Decides-and _ _ (once_decides order) gates) (ordered_decides order f.p)) (ordered_decides order f.n))
  where
    gates : Decides (list_all (is_gate f) order) (All (λ (g : NetNo). IsGate f g.0) order)
    gates = Decides-by_and (is_gate f) (λ (g : NetNo). IsGate f g.0) (list_all (is_gate f)) (gate_decides f) refl (λ _ _. refl) order

pub gates_decide : (f : Fingers) (trails : TrailCertificate) → IsTrue (gates_test f trails) ↔ AreGates f trails
gates_decide f trails =
    Decides-like _ (λ both. record { order = both.0; opened = both.1 }) (λ are. (are.order, are.opened)) (Decides-and _ _ (order_decides f trails.order) (open_decides f (open_of f trails)))
