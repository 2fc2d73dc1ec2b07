-- Sets with the same cells fail alike.
use Rattle.std.proofs.Common.{◌↔◌, ℕ, ℤ, pos, ◌-ℤ◌, inl, inr}
use Rattle.box_geom.specs.Chains.{Chain, Linked}
use Rattle.box_geom.specs.Regions.{IsEmpty}
use Rattle.box_geom.specs.Runs.{IsRun, IsShort, IsOff, IsNotch}
use Rattle.box_geom.specs.Touching.{Cell}
use Rattle.scmos_rules.specs.Lengths.{FailsWidth, FailsSize}
use Rattle.scmos_rules.specs.Failing.{FailsSpacing}
use Rattle.net_extract.proofs.Bonds.{carried_steps}

run : (P Q : ℤ → Type 0) → ((z : ℤ) → P z ↔ Q z) → (a b t : ℤ) → IsRun P a b t → IsRun Q a b t
run P Q same a b t r = record { from = r.from; to = r.to; all = λ z l h. (same z).0 (r.all z l h); before = λ q. r.before ((same (a -ℤ pos 1)).1 q); behind = λ q. r.behind ((same b).1 q) }

short : (P Q : ℤ → Type 0) → ((z : ℤ) → P z ↔ Q z) → (v : ℕ) (t : ℤ) → IsShort P v t → IsShort Q v t
short P Q same v t s = record { a = s.a; b = s.b; run = run P Q same s.a s.b t s.run; short = s.short }

off : (P Q : ℤ → Type 0) → ((z : ℤ) → P z ↔ Q z) → (v : ℕ) (t : ℤ) → IsOff P v t → IsOff Q v t
off P Q same v t s = record { a = s.a; b = s.b; run = run P Q same s.a s.b t s.run; off = s.off }

notch : (P Q : ℤ → Type 0) → ((z : ℤ) → P z ↔ Q z) → (v : ℕ) (t : ℤ) → IsNotch P v t → IsNotch Q v t
notch P Q same v t n = record { a = n.a; b = n.b; from = n.from; to = n.to; all = λ z l h q. n.all z l h ((same z).1 q); before = (same (n.a -ℤ pos 1)).0 n.before; behind = (same n.b).0 n.behind; short = n.short }

chain : (P Q : ℤ → ℤ → Type 0) → ((x y : ℤ) → P x y ↔ Q x y) → (a b : Cell) → Chain (Linked P) a b → Chain (Linked Q) a b
chain P Q same a b c = carried_steps (Linked P) (Linked Q) (λ (z : Cell). z) (λ p q l. record { from = (same p.x p.y).0 l.from; to = (same q.x q.y).0 l.to; edge = l.edge }) c.count a b c.steps

pub like_width : (P Q : ℤ → ℤ → Type 0) (v : ℕ) → ((x y : ℤ) → P x y ↔ Q x y) → IsEmpty (FailsWidth Q v) → IsEmpty (FailsWidth P v)
like_width P Q v same none x y f = elim f.short [
  | inl s ↦ none x y (record { covered = (same x y).0 f.covered; short = inl (short (λ z. P z y) (λ z. Q z y) (λ z. same z y) v x s) })
  | inr s ↦ none x y (record { covered = (same x y).0 f.covered; short = inr (short (λ z. P x z) (λ z. Q x z) (λ z. same x z) v y s) })
]

pub like_size : (P Q : ℤ → ℤ → Type 0) (v : ℕ) → ((x y : ℤ) → P x y ↔ Q x y) → IsEmpty (FailsSize Q v) → IsEmpty (FailsSize P v)
like_size P Q v same none x y f = elim f.off [
  | inl s ↦ none x y (record { covered = (same x y).0 f.covered; off = inl (off (λ z. P z y) (λ z. Q z y) (λ z. same z y) v x s) })
  | inr s ↦ none x y (record { covered = (same x y).0 f.covered; off = inr (off (λ z. P x z) (λ z. Q x z) (λ z. same x z) v y s) })
]

flip : {A B : Type 0} → A ↔ B → B ↔ A
flip e = (e.1, e.0)

pub like_spacing : (P Q : ℤ → ℤ → Type 0) (v : ℕ) → ((x y : ℤ) → P x y ↔ Q x y) → IsEmpty (FailsSpacing Q v) → IsEmpty (FailsSpacing P v)
like_spacing P Q v same none x y (inl f) = elim f.notch [
  | inl n ↦ none x y (inl (record { bare = λ q. f.bare ((same x y).1 q); notch = inl (notch (λ z. P z y) (λ z. Q z y) (λ z. same z y) v x n) }))
  | inr n ↦ none x y (inl (record { bare = λ q. f.bare ((same x y).1 q); notch = inr (notch (λ z. P x z) (λ z. Q x z) (λ z. same x z) v y n) }))
]
like_spacing P Q v same none x y (inr f) = none x y (inr (record { covered = (same x y).0 f.covered; s = f.s; t = f.t; other = (same f.s f.t).0 f.other; near = f.near; apart = λ c. f.apart (chain Q P (λ s t. flip (same s t)) (record { x = x; y = y }) (record { x = f.s; y = f.t }) c) }))
