-- Chains of steps.
use Rattle.std.proofs.Common.{◌≡◌, ℕ, zero, suc, refl, sym, subst}
use Rattle.box_geom.specs.Chains.{Steps, Chain}

pub none : {X : Type 0} (S : X → X → Type 0) (a b : X) → a ≡ b → Chain S a b
none S a b e = record { count = 0; steps = e }

pub one : {X : Type 0} (S : X → X → Type 0) (a b : X) → S a b → Chain S a b
one S a b s = record { count = 1; steps = (b, s, refl) }

then_steps : {X : Type 0} (S : X → X → Type 0) (n : ℕ) (a b c : X) → Steps S n a b → Chain S b c → Chain S a c
then_steps S zero a b c e k = subst (λ x. Chain S x c) (sym e) k
then_steps S (suc n) a b c (m, s, r) k = let rest = then_steps S n m b c r k in record { count = suc rest.count; steps = (m, s, rest.steps) }

pub joined : {X : Type 0} (S : X → X → Type 0) (a b c : X) → Chain S a b → Chain S b c → Chain S a c
joined S a b c j k = then_steps S j.count a b c j.steps k

turned_steps : {X : Type 0} (S : X → X → Type 0) → ((a b : X) → S a b → S b a) → (n : ℕ) (a b : X) → Steps S n a b → Chain S b a
turned_steps S flip zero a b e = none S b a (sym e)
turned_steps S flip (suc n) a b (m, s, r) = joined S b m a (turned_steps S flip n m b r) (one S m a (flip a m s))

-- a chain of steps that go both ways
pub turned : {X : Type 0} (S : X → X → Type 0) → ((a b : X) → S a b → S b a) → (a b : X) → Chain S a b → Chain S b a
turned S flip a b k = turned_steps S flip k.count a b k.steps

-- a chain is followed by one of other things, where each step is
pub followed : {X Y : Type 0} (S : X → X → Type 0) (T : Y → Y → Type 0) (R : X → Y → Type 0) → ((a b : X) (p : Y) → S a b → R a p → (q : Y) × R b q × Chain T p q) → (n : ℕ) (a b : X) (p : Y) → Steps S n a b → R a p → (q : Y) × R b q × Chain T p q
followed S T R step zero a b p e r = (p, subst (λ z. R z p) e r, none T p p refl)
followed S T R step (suc n) a b p (m, s, rest) r =
    let next = step a m p s r in
    let more = followed S T R step n m b next.0 rest next.1 in
    (more.0, more.1, joined T p next.0 more.0 next.2 more.2)
