-- A walk that has no choice at any step comes to one cycle, from wherever it begins.
use Rattle.std.proofs.Common.{ℕ, ◌≡◌, ◌<◌, ◌≤◌, ◌⊎◌, List, [], ◌∷◌, inl, inr, refl, sym, ap, subst, arith, All, Contains}
use Rattle.std.proofs.lemmas.List.Elements.{All-head, All-tail, All-contains}
use Rattle.cell_num.proofs.Lists.{contains_none, contains_cons, contains_here, contains_there}
use Rattle.cell_num.proofs.Pairs.{Some'}
use Rattle.channel_route.specs.Walk.{Entries, next_key, IsWalk, IsCycleFrom, ComesTo, IsKeyCycleBelow}

-- a step has no choice
abbrev pub Determined : (ℕ → ℕ → ℕ → Type 0) → Type 0
Determined Over = (upper a b i j : ℕ) → Over upper a i → Over upper b j → (i ≡ j) × (a ≡ b)

-- an entry is known from its key and its line
abbrev pub Faithful : {X : Type 0} → Entries X → Type 0
Faithful {X} named = (a b : X) → named.key a ≡ named.key b → named.line a ≡ named.line b → a ≡ b

next_same : (Over : ℕ → ℕ → ℕ → Type 0) → Determined Over → (u v a b i j : ℕ) → u ≡ v → Over u a i → Over v b j → (i ≡ j) × (a ≡ b)
next_same Over det u v a b i j same s t = det v a b i j (subst (λ n. Over n a i) same s) t

-- of two walks from one key one goes on where the other ends
meets : {X : Type 0} (named : Entries X) (Over : ℕ → ℕ → ℕ → Type 0) → Determined Over → (p q : List X) (x y : ℕ) → IsWalk named Over p x → IsWalk named Over q y → next_key named p x ≡ next_key named q y → ComesTo named Over x y ⊎ ComesTo named Over y x
meets named Over det [] q x y h g e = inl (record { path = q; walk = g; begins = sym e })
meets named Over det (a ∷ p) [] x y h g e = inr (record { path = a ∷ p; walk = h; begins = e })
meets named Over det (a ∷ p) (b ∷ q) x y h g e = meets named Over det p q x y h.1 g.1 (next_same Over det (named.key a) (named.key b) (next_key named p x) (next_key named q y) (named.line a) (named.line b) e h.0 g.0).1

-- an entry of a key
abbrev pub Inside : {X : Type 0} → Entries X → List X → ℕ → Type 0
Inside named xs key = Some' (λ a. named.key a ≡ key) xs

inside_more : {X : Type 0} (named : Entries X) (a : X) (xs : List X) (key : ℕ) → Inside named xs key → Inside named (a ∷ xs) key
inside_more named a xs key s = record { it = s.it; there = contains_there a xs s.it s.there; holds = s.holds }

-- the step at an entry of a walk
pub record StepAt {X : Type 0} (named : Entries X) (Over : ℕ → ℕ → ℕ → Type 0) (xs : List X) (back : ℕ) (y : X) : Type 0 where
  pub next : ℕ
  pub over : Over (named.key y) next (named.line y)
  pub goes : (next ≡ back) ⊎ Inside named xs next

step_at : {X : Type 0} (named : Entries X) (Over : ℕ → ℕ → ℕ → Type 0) (xs : List X) (back : ℕ) (y : X) → IsWalk named Over xs back → Contains xs y → StepAt named Over xs back y
step_at {X} named Over [] back y h there = absurd (contains_none y there)
step_at {X} named Over (a ∷ more) back y h there =
    elim (contains_cons a more y there) [
      | inl same ↦ subst (λ z. StepAt named Over (a ∷ more) back z) same (first more h)
      | inr rest ↦ later (step_at named Over more back y h.1 rest)
    ]
  where
    first : (more : List X) → IsWalk named Over (a ∷ more) back → StepAt named Over (a ∷ more) back a
    first [] h = record { next = back; over = h.0; goes = inl refl }
    first (b ∷ more) h = record { next = (named.key b); over = h.0; goes = inr (record { it = b; there = contains_there a (b ∷ more) b (contains_here b more); holds = refl }) }

    later : StepAt named Over more back y → StepAt named Over (a ∷ more) back y
    later s = record { next = s.next; over = s.over; goes = elim s.goes [ inl e ↦ inl e | inr i ↦ inr (inside_more named a more s.next i) ] }

-- a walk does not leave a cycle
stays : {X : Type 0} (named : Entries X) (Over : ℕ → ℕ → ℕ → Type 0) → Determined Over → (f : X) (r : List X) → IsWalk named Over (f ∷ r) (named.key f) → (path : List X) (x : ℕ) → IsWalk named Over path x → Inside named (f ∷ r) (next_key named path x) → Inside named (f ∷ r) x
stays {X} named Over det f r c [] x h i = i
stays {X} named Over det f r c (a ∷ more) x h i = stays named Over det f r c more x h.1 (by (step_at named Over (f ∷ r) (named.key f) i.it c i.there))
  where
    by : StepAt named Over (f ∷ r) (named.key f) i.it → Inside named (f ∷ r) (next_key named more x)
    by s =
        let e : s.next ≡ next_key named more x = (next_same Over det (named.key i.it) (named.key a) s.next (next_key named more x) (named.line i.it) (named.line a) i.holds s.over h.0).1 in
        subst (λ n. Inside named (f ∷ r) n) e (elim s.goes [ inl back ↦ record { it = f; there = contains_here f r; holds = sym back } | inr there ↦ there ])

-- and comes round to its first key
round : {X : Type 0} (named : Entries X) (Over : ℕ → ℕ → ℕ → Type 0) (xs : List X) (back : ℕ) (y : X) → IsWalk named Over xs back → Contains xs y → ComesTo named Over (named.key y) back
round {X} named Over [] back y h there = absurd (contains_none y there)
round {X} named Over (a ∷ more) back y h there =
    elim (contains_cons a more y there) [
      | inl same ↦ subst (λ (z : X). ComesTo named Over (named.key z) back) same (record { path = a ∷ more; walk = h; begins = refl })
      | inr rest ↦ round named Over more back y h.1 rest
    ]

least_inside : {X : Type 0} (named : Entries X) (Over : ℕ → ℕ → ℕ → Type 0) (f : X) (r : List X) (key : ℕ) → IsCycleFrom named Over f r → Inside named (f ∷ r) key → named.key f ≤ key
least_inside {X} named Over f r key c i =
    subst (λ (n : ℕ). named.key f ≤ n) i.holds (elim (contains_cons f r i.it i.there) [
      | inl same ↦ let e : named.key f ≡ named.key i.it = ap (λ (z : X). named.key z) same in omega (arith, e)
      | inr rest ↦ let less : named.key f < named.key i.it = All-contains (λ (z : X). named.key f < named.key z) r i.it c.least rest in omega (arith, less)
    ])

-- so one cycle leads to the other and back, and their least keys are one
heads : {X : Type 0} (named : Entries X) (Over : ℕ → ℕ → ℕ → Type 0) → Determined Over → (f : X) (r : List X) (g : X) (s : List X) → IsCycleFrom named Over f r → IsCycleFrom named Over g s → ComesTo named Over (named.key f) (named.key g) → named.key f ≡ named.key g
heads named Over det f r g s c d w =
    let there : Inside named (f ∷ r) (named.key g) = stays named Over det f r c.above w.path (named.key g) w.walk (record { it = f; there = contains_here f r; holds = sym w.begins }) in
    let home : ComesTo named Over (named.key g) (named.key f) = subst (λ n. ComesTo named Over n (named.key f)) there.holds (round named Over (f ∷ r) (named.key f) there.it c.above there.there) in
    let back : Inside named (g ∷ s) (named.key f) = stays named Over det g s d.above home.path (named.key f) home.walk (record { it = g; there = contains_here g s; holds = sym home.begins }) in
    omega (arith, least_inside named Over f r (named.key g) c there, least_inside named Over g s (named.key f) d back)

pub cons_same : {X : Type 0} (a b : X) (xs ys : List X) → a ≡ b → xs ≡ ys → a ∷ xs ≡ b ∷ ys
cons_same a b xs ys e f = cc

same_rest : {X : Type 0} (named : Entries X) (Over : ℕ → ℕ → ℕ → Type 0) → Determined Over → Faithful named → (back : ℕ) (r s : List X) → IsWalk named Over r back → IsWalk named Over s back → next_key named r back ≡ next_key named s back → All (λ a. back < named.key a) r → All (λ a. back < named.key a) s → r ≡ s
same_rest {X} named Over det one back [] [] h g e low high = refl
same_rest {X} named Over det one back [] (b ∷ s) h g e low high = absurd (let less : back < named.key b = All-head (λ (a : X). back < named.key a) b s high in omega (arith, less, ap (λ (n : ℕ). n) e))
same_rest {X} named Over det one back (a ∷ r) [] h g e low high = absurd (let less : back < named.key a = All-head (λ (a : X). back < named.key a) a r low in omega (arith, less, ap (λ (n : ℕ). n) e))
same_rest {X} named Over det one back (a ∷ r) (b ∷ s) h g e low high =
    let next : (named.line a ≡ named.line b) × (next_key named r back ≡ next_key named s back) = next_same Over det (named.key a) (named.key b) (next_key named r back) (next_key named s back) (named.line a) (named.line b) e h.0 g.0 in
    cons_same a b r s (one a b e next.0) (same_rest named Over det one back r s h.1 g.1 next.1 (All-tail (λ (a : X). back < named.key a) a r low) (All-tail (λ (a : X). back < named.key a) b s high))

pub one_cycle : {X : Type 0} (named : Entries X) (Over : ℕ → ℕ → ℕ → Type 0) → Determined Over → Faithful named → (start : ℕ) (c d : List X) → IsKeyCycleBelow named Over start c → IsKeyCycleBelow named Over start d → c ≡ d
one_cycle {X} named Over det one start [] d hc hd = absurd hc
one_cycle {X} named Over det one start (f ∷ r) [] hc hd = absurd hd
one_cycle {X} named Over det one start (f ∷ r) (g ∷ s) (c, v) (d, w) = same
  where
    first : named.key f ≡ named.key g
    first =
        elim (meets named Over det v.path w.path (named.key f) (named.key g) v.walk w.walk (let e : next_key named v.path (named.key f) ≡ next_key named w.path (named.key g) = subst (λ n. next_key named v.path (named.key f) ≡ n) (sym w.begins) v.begins in e)) [
          | inl on ↦ heads named Over det f r g s c d on
          | inr on ↦ sym (heads named Over det g s f r d c on)
        ]

    above : IsWalk named Over (g ∷ s) (named.key f)
    above = subst (λ n. IsWalk named Over (g ∷ s) n) (sym first) d.above

    least : All (λ a. named.key f < named.key a) s
    least = subst (λ (n : ℕ). All (λ (a : X). n < named.key a) s) (sym first) d.least

    next : (named.line f ≡ named.line g) × (next_key named r (named.key f) ≡ next_key named s (named.key f))
    next = next_same Over det (named.key f) (named.key g) (next_key named r (named.key f)) (next_key named s (named.key f)) (named.line f) (named.line g) first c.above.0 above.0

    same : f ∷ r ≡ g ∷ s
    same = cons_same f g r s (one f g first next.0) (same_rest named Over det one (named.key f) r s c.above.1 above.1 next.1 c.least least)
