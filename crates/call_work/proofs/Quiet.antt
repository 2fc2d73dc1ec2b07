-- How many readings failed, where a refusal is handed on.
use Rattle.std.proofs.Common.{◌≡◌, Result, Ok, Err, sym, subst, ◌∙◌}
use Rattle.cell_io.specs.Desk.{View}
use Rattle.call_read.specs.Read.{KeepsReads, KeepsReadsBut}
use Rattle.call_read.specs.declared.refusal.Refusal.{Refusal}
use Rattle.call_read.specs.declared.refusal.Refusal.TheVariants.{Words, Unread, Long, Tech, Spice, Fold, Gds, Lef, NoMemory}
use Rattle.call_read.proofs.Desks.{IsHanded}

quiet_on : (e : Refusal) (a b c : View) → b.read_faults ≡ a.read_faults → KeepsReadsBut e b c → KeepsReadsBut e a c
quiet_on Words a b c same quiet = quiet ∙ same
quiet_on (Unread name) a b c same quiet = tt
quiet_on (Long name) a b c same quiet = quiet ∙ same
quiet_on (Tech f) a b c same quiet = quiet ∙ same
quiet_on (Spice f) a b c same quiet = quiet ∙ same
quiet_on (Fold f) a b c same quiet = quiet ∙ same
quiet_on (Gds f) a b c same quiet = quiet ∙ same
quiet_on (Lef f) a b c same quiet = quiet ∙ same
quiet_on NoMemory a b c same quiet = tt

pub quiet_handed : {A B : Type 0} (a b c : View) (r : Result A Refusal) (e : Refusal) (own : Result B Refusal) → b.read_faults ≡ a.read_faults → r ≡ Err e → KeepsReads r b c → IsHanded own e → KeepsReads own a c
quiet_handed a b c r e (Ok x) same is quiet (gone, told) = absurd told
quiet_handed a b c r e (Err f) same is quiet (gone, told) =
    subst (λ (x : Refusal). KeepsReadsBut x a c) (sym told) (quiet_on e a b c same (kept r is quiet))
  where
    kept : {A : Type 0} (r : Result A Refusal) → r ≡ Err e → KeepsReads r b c → KeepsReadsBut e b c
    kept (Ok x) is quiet = absurd cc
    kept (Err g) is quiet =
        let one : g ≡ e = cc in
        subst (λ (x : Refusal). KeepsReadsBut x b c) one quiet

-- the same after a step that was taken
pub quiet_behind : {A B C : Type 0} (a b c : View) (first : Result A Refusal) (x : A) (r : Result B Refusal) (e : Refusal) (own : Result C Refusal) → first ≡ Ok x → KeepsReads first a b → r ≡ Err e → KeepsReads r b c → IsHanded own e → KeepsReads own a c
quiet_behind a b c (Ok y) x r e own taken kept is quiet told = quiet_handed a b c r e own kept is quiet told
quiet_behind a b c (Err f) x r e own taken kept is quiet told = absurd cc
