-- A test of the gates decides whether they are filled and left open as they may be.
use Rattle.std.specs.Prelude.{◌≡◌, ◌↔◌, Bool, true, false, IsTrue, List, All}
use Rattle.std.specs.Bool.{Decides}
use Rattle.std.specs.List.{list_all}
use Rattle.std.proofs.Common.{refl, subst, sym, inl, inr}
use Rattle.std.proofs.lemmas.Bool.{cases_Bool}
use Rattle.std.proofs.lemmas.Bool.Decides.{Decides-at, Decides-by_and, Decides-like}
use Rattle.cell_num.specs.declared.finger.Fingers.{Fingers}
use Rattle.cell_num.specs.declared.net.NetNo.{NetNo}
use Rattle.open_gates.specs.declared.gates.OpenGates.{OpenGates}
use Rattle.open_gates.specs.Open.{AreOpenGates, have_more, is_uneven}
use Rattle.open_gates.proofs.Decided.{open_decides}
use Rattle.order_log.specs.declared.certificate.OrderCertificate.{OrderCertificate}
use Rattle.pool_log.specs.declared.lemma.PoolLine.{PoolLine}
use Rattle.pool_certificate.specs.Accepted.{IsFill, open_of}

half_decides : (f : Fingers) (gates : List NetNo)
    → Decides (list_all (λ (gate : NetNo). is_uneven f gate.0) gates)
    (All (λ (gate : NetNo). is_uneven f gate.0 ≡ true) gates)
half_decides f gates =
    Decides-by_and (λ (gate : NetNo). is_uneven f gate.0) (λ (gate : NetNo). is_uneven f gate.0 ≡ true)
    (list_all (λ (gate : NetNo). is_uneven f gate.0)) (λ gate. (λ h. h, λ h. h)) refl (λ _ _. refl) gates

-- where each gate that is filled has half columns, it is as of the gates left open
pub fill_decides : (f : Fingers) (pools : OrderCertificate PoolLine) (opened : OpenGates) (half b : Bool)
    → opened ≡ open_of f pools → half ≡ list_all (λ (gate : NetNo). is_uneven f gate.0) pools.fill
    → (half ≡ true → b ≡ have_more f opened) → (half ≡ false → b ≡ false) → IsTrue b ↔ IsFill f pools
fill_decides f pools opened half b are is more none =
    let halves : Decides half (All (λ (gate : NetNo). is_uneven f gate.0 ≡ true) pools.fill) =
    Decides-at half (list_all (λ (gate : NetNo). is_uneven f gate.0) pools.fill) is (half_decides f pools.fill) in
    elim (cases_Bool half) [
      | inl all ↦
          Decides-like b
          (λ h. record { half = halves.0 all; opened = subst (AreOpenGates f) are h })
          (λ h. subst (AreOpenGates f) (sym are) h.opened)
          (Decides-at b (have_more f opened) (more all) (open_decides f opened))
      | inr not_all ↦
          let off : b ≡ false = none not_all in
          (λ e. absurd cc, λ h. let yes' : half ≡ true = halves.1 h.half in absurd cc)
    ]
