-- Numbers are tried with those behind them, and come into the trees of their classes.
use Rattle.std.proofs.Common.{◌≡◌, ℕ, zero, suc, ◌+◌, ◌<◌, ◌≤◌, max, min, List, get_or, arith, sym, subst, ap, ◌∙◌, inl, inr, ◌⊎◌}
use Rattle.std.specs.List.{range_with_len}
use Rattle.std.proofs.lemmas.List.FromFn.{length-range_with_len, get_or-range_with_len}
use Rattle.std.proofs.lemmas.Bool.{cases_eq, cases_lt, cases_order}
use Rattle.number_trees.proofs.Chains.{none, one, joined, turned}
use Rattle.box_geom.specs.Chains.{Chain, Steps}
use Rattle.number_trees.specs.Classes.{AreKin, InTree, AreSound, AreTrees, Keeps, AreLeast, AreTried, IsTried, AreHeads}

-- ---- chains whose steps are chains
rechained_steps : {X : Type 0} (S T : X → X → Type 0) → ((a b : X) → S a b → Chain T a b) → (n : ℕ) (a b : X) → Steps S n a b → Chain T a b
rechained_steps S T f zero a b e = none T a b e
rechained_steps S T f (suc n) a b (m, s, r) = joined T a m b (f a m s) (rechained_steps S T f n m b r)

pub rechained : {X : Type 0} (S T : X → X → Type 0) → ((a b : X) → S a b → Chain T a b) → (a b : X) → Chain S a b → Chain T a b
rechained S T f a b c = rechained_steps S T f c.count a b c.steps

-- ---- numbers that are tried
-- R goes both ways
abbrev pub GoesBack : (ℕ → ℕ → Type 0) → Type 0
GoesBack R = (a b : ℕ) → R a b → R b a

-- R speaks of numbers below n
abbrev pub IsBelow : ℕ → (ℕ → ℕ → Type 0) → Type 0
IsBelow n R = (a b : ℕ) → R a b → (a < n) × (b < n)

keeps_self : (ls : List ℕ) → Keeps ls ls
keeps_self ls = record { kept = λ i j t. t }

keeps_both : (a b c : List ℕ) → Keeps a b → Keeps b c → Keeps a c
keeps_both a b c ab bc = record { kept = λ i j t. bc.kept i j (ab.kept i j t) }

pub first_sound : (n : ℕ) (R : ℕ → ℕ → Type 0) (ls : List ℕ) → ls ≡ range_with_len 0 n → AreSound n R ls
first_sound n R ls e = subst (AreSound n R) (sym e) (record {
  count = length-range_with_len 0 n;
  low = λ i l. let p = get_or-range_with_len 0 n i 0 l in omega (arith, p);
  reach = λ i l. none R i (get_or (range_with_len 0 n) i 0) (let p = get_or-range_with_len 0 n i 0 l in omega (arith, p));
})

-- the greater and the smaller of two numbers
pub ends : (a b : ℕ) → (((max a b ≡ a) × (min a b ≡ b)) ⊎ ((max a b ≡ b) × (min a b ≡ a)))
ends a b = elim (cases_order a b) [
  | inl e ↦ inl (omega (arith, e), omega (arith, e))
  | inr r ↦ elim r [ inl l ↦ inr (omega (arith, l), omega (arith, l)) | inr g ↦ inl (omega (arith, g), omega (arith, g)) ]
]

pub apart_is : (n : ℕ) (R Q : ℕ → ℕ → Type 0) (i j : ℕ) (ls : List ℕ) → AreSound n R ls → (Q i j → ⊥) → IsTried n R Q i j ls ls
apart_is n R Q i j ls is apart = record { sound = is; keeps = keeps_self ls; joined = λ r. absurd (apart r) }

pub none_tried : (n : ℕ) (R Q : ℕ → ℕ → Type 0) (i : ℕ) (ls : List ℕ) → AreSound n R ls → AreTried n R Q i (i + 1) ls ls
none_tried n R Q i ls is = record { sound = is; keeps = keeps_self ls; joined = λ j l m r. absurd (omega (arith, l, m)) }

pub more_tried : (n : ℕ) (R Q : ℕ → ℕ → Type 0) (i k : ℕ) (old mid new : List ℕ) → AreTried n R Q i k old mid → IsTried n R Q i k mid new → AreTried n R Q i (k + 1) old new
more_tried n R Q i k old mid new was is = record {
  sound = is.sound;
  keeps = keeps_both old mid new was.keeps is.keeps;
  joined = λ j l m r. elim (cases_eq j k) [
    | inl e ↦ subst (λ z. InTree new i z) (sym e) (is.joined (subst (Q i) e r))
    | inr ne ↦ is.keeps.kept i j (was.joined j l (omega (arith, m, ne)) r)
  ];
}

-- the numbers from k on are unrelated
pub cut_short : (n : ℕ) (R Q : ℕ → ℕ → Type 0) (i k : ℕ) (old new : List ℕ) → ((j : ℕ) → k ≤ j → j < n → Q i j → ⊥) → AreTried n R Q i k old new → AreTried n R Q i n old new
cut_short n R Q i k old new apart was = record {
  sound = was.sound;
  keeps = was.keeps;
  joined = λ j l m r. elim (cases_lt j k) [ inl less ↦ was.joined j l less r | inr most ↦ absurd (apart j most m r) ];
}

pub tried_all : (n : ℕ) (R Q : ℕ → ℕ → Type 0) (i k : ℕ) (old new : List ℕ) → n ≤ k → AreTried n R Q i k old new → AreTried n R Q i n old new
tried_all n R Q i k old new all was = record { sound = was.sound; keeps = was.keeps; joined = λ j l m r. was.joined j l (omega (arith, m, all)) r }

-- the numbers below k were tried with all behind them
pub record AreSettled (n : ℕ) (R Q : ℕ → ℕ → Type 0) (k : ℕ) (old new : List ℕ) : Type 0 where
  pub sound : AreSound n R new
  pub keeps : Keeps old new
  pub joined : (i j : ℕ) → i < k → i < j → Q i j → InTree new i j

pub none_settled : (n : ℕ) (R Q : ℕ → ℕ → Type 0) (ls : List ℕ) → AreSound n R ls → AreSettled n R Q 0 ls ls
none_settled n R Q ls is = record { sound = is; keeps = keeps_self ls; joined = λ i j l m r. absurd (omega (arith, l)) }

pub more_settled : (n : ℕ) (R Q : ℕ → ℕ → Type 0) → IsBelow n Q → (k : ℕ) (old mid new : List ℕ) → AreSettled n R Q k old mid → AreTried n R Q k n mid new → AreSettled n R Q (k + 1) old new
more_settled n R Q below k old mid new was is = record {
  sound = is.sound;
  keeps = keeps_both old mid new was.keeps is.keeps;
  joined = λ i j l m r. elim (cases_eq i k) [
    | inl e ↦ subst (λ z. InTree new z j) (sym e) (is.joined j (omega (arith, e, m)) (below i j r).1 (subst (λ z. Q z j) e r))
    | inr ne ↦ is.keeps.kept i j (was.joined i j (omega (arith, l, ne)) m r)
  ];
}

tree_turned : (ls : List ℕ) (i j : ℕ) → InTree ls i j → InTree ls j i
tree_turned ls i j t = turned (AreKin ls) (λ a b k. elim k [ inl p ↦ inr p | inr p ↦ inl p ]) i j t

-- what Q relates stands in one tree
pub settled_joined : (n : ℕ) (R Q : ℕ → ℕ → Type 0) → GoesBack Q → IsBelow n Q → (k : ℕ) (old new : List ℕ) → n ≤ k → AreSettled n R Q k old new → (i j : ℕ) → Q i j → InTree new i j
settled_joined n R Q back below k old new all is i j r = elim (cases_order i j) [
  | inl e ↦ none (AreKin new) i j e
  | inr (inl l) ↦ is.joined i j (let b = (below i j r).0 in omega (arith, b, all)) l r
  | inr (inr g) ↦ tree_turned new j i (is.joined j i (let b = (below i j r).1 in omega (arith, b, all)) g (back i j r))
]

pub settled_trees : (n : ℕ) (R : ℕ → ℕ → Type 0) → GoesBack R → IsBelow n R → (k : ℕ) (old new : List ℕ) → n ≤ k → AreSettled n R R k old new → AreTrees n R new
settled_trees n R back below k old new all is = record { sound = is.sound; joined = settled_joined n R R back below k old new all is }

-- what one relation makes of labels, an equal one does as well
pub least_like : (n : ℕ) (R Q : ℕ → ℕ → Type 0) → ((i j : ℕ) → R i j → Q i j) → ((i j : ℕ) → Q i j → R i j) → (ls : List ℕ) → AreLeast n R ls → AreLeast n Q ls
least_like n R Q there back ls is = record {
  sound = record { count = is.sound.count; low = is.sound.low; reach = λ i l. rechained R Q (λ a b r. one Q a b (there a b r)) i (get_or ls i 0) (is.sound.reach i l) };
  same = λ i j r. is.same i j (back i j r);
}

-- labels go along chains
along : (n : ℕ) (R : ℕ → ℕ → Type 0) (ls : List ℕ) → AreLeast n R ls → (m : ℕ) (i j : ℕ) → Steps R m i j → get_or ls i 0 ≡ get_or ls j 0
along n R ls is zero i j e = ap (λ z. get_or ls z 0) e
along n R ls is (suc m) i j (k, r, rest) = is.same i k r ∙ along n R ls is m k j rest

pub chained_same : (n : ℕ) (R : ℕ → ℕ → Type 0) (ls : List ℕ) → AreLeast n R ls → (i j : ℕ) → Chain R i j → get_or ls i 0 ≡ get_or ls j 0
chained_same n R ls is i j c = along n R ls is c.count i j c.steps

pub same_chained : (n : ℕ) (R : ℕ → ℕ → Type 0) → GoesBack R → (ls : List ℕ) → AreLeast n R ls → (i j : ℕ) → i < n → j < n → get_or ls i 0 ≡ get_or ls j 0 → Chain R i j
same_chained n R back ls is i j li lj e = joined R i (get_or ls i 0) j (is.sound.reach i li) (subst (λ z. Chain R z j) (sym e) (turned R back j (get_or ls j 0) (is.sound.reach j lj)))

pub least_heads : (n : ℕ) (R : ℕ → ℕ → Type 0) (ls : List ℕ) → AreLeast n R ls → AreHeads n ls
least_heads n R ls is = record {
  count = is.sound.count;
  low = is.sound.low;
  itself = λ i l. sym (chained_same n R ls is i (get_or ls i 0) (is.sound.reach i l));
}
