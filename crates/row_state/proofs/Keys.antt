-- Lists of numbers by their first difference.
use Rattle.std.proofs.Common.{ℕ, ◌≡◌, ◌<◌, true, List, [], ◌∷◌, ◌++◌, length, refl, ap, subst, arith}
use Rattle.std.specs.declared.cmp.Ordering.{Ordering}
use Rattle.std.specs.declared.cmp.Ordering.TheVariants.{Less, Equal, Greater}
use Rattle.std.specs.Ordering.{nat_cmp, is_lt, ordering_then, ordering_reverse}
use Rattle.std.specs.Cmp.Lexicographic.{slice_cmp, nat_list_cmp_total}
use Rattle.std.proofs.lemmas.Cmp.{nat_cmp_total}
use Rattle.std.proofs.lemmas.Bool.{lt-ltb}
use Rattle.row_state.specs.Order.{KeyBefore}

pub less_is : (o : Ordering) → is_lt o ≡ true → o ≡ Less
less_is Less h = refl
less_is Equal h = cc
less_is Greater h = cc

pub cmp_lt : (a b : ℕ) → a < b → nat_cmp a b ≡ Less
cmp_lt a b l = rw (lt-ltb a b l) refl

cmp_itself : (a : ℕ) → nat_cmp a a ≡ Equal
cmp_itself a = own (nat_cmp a a) (nat_cmp_total.antisymm a a)
  where
    own : (o : Ordering) → o ≡ ordering_reverse o → o ≡ Equal
    own Less h = cc
    own Equal h = refl
    own Greater h = cc

pub key_head : (a b : ℕ) (xs ys : List ℕ) → a < b → KeyBefore (a ∷ xs) (b ∷ ys)
key_head a b xs ys l = rw (cmp_lt a b l) refl

pub key_tail : (a : ℕ) (xs ys : List ℕ) → KeyBefore xs ys → KeyBefore (a ∷ xs) (a ∷ ys)
key_tail a xs ys h = rw (cmp_itself a) h

pub key_untail : (a : ℕ) (xs ys : List ℕ) → KeyBefore (a ∷ xs) (a ∷ ys) → KeyBefore xs ys
key_untail a xs ys h = subst (λ o. is_lt (ordering_then o (slice_cmp nat_cmp xs ys)) ≡ true) (cmp_itself a) h

pub key_behind : (a b : ℕ) (xs ys : List ℕ) → a ≡ b → KeyBefore xs ys → KeyBefore (a ∷ xs) (b ∷ ys)
key_behind a b xs ys e h = subst (λ c. KeyBefore (a ∷ xs) (c ∷ ys)) e (key_tail a xs ys h)

pub key_prefix : (xs us vs : List ℕ) → KeyBefore us vs → KeyBefore (xs ++ us) (xs ++ vs)
key_prefix [] us vs h = h
key_prefix (x ∷ xs) us vs h = key_tail x (xs ++ us) (xs ++ vs) (key_prefix xs us vs h)

then_less : (o r q : Ordering) → is_lt (ordering_then o r) ≡ true → (is_lt r ≡ true → is_lt q ≡ true) → is_lt (ordering_then o q) ≡ true
then_less Less r q h f = refl
then_less Equal r q h f = f h
then_less Greater r q h f = h

pub key_append : (xs ys us vs : List ℕ) → length xs ≡ length ys → KeyBefore xs ys → KeyBefore (xs ++ us) (ys ++ vs)
key_append [] [] us vs same h = cc
key_append [] (y ∷ ys) us vs same h = absurd (omega (arith, same))
key_append (x ∷ xs) [] us vs same h = absurd (omega (arith, same))
key_append (x ∷ xs) (y ∷ ys) us vs same h = then_less (nat_cmp x y) (slice_cmp nat_cmp xs ys) (slice_cmp nat_cmp (xs ++ us) (ys ++ vs)) h (λ r. key_append xs ys us vs (omega (arith, same)) r)

pub key_trans : (xs ys zs : List ℕ) → KeyBefore xs ys → KeyBefore ys zs → KeyBefore xs zs
key_trans xs ys zs h i = ap is_lt (nat_list_cmp_total.trans xs ys zs (less_is (slice_cmp nat_cmp xs ys) h) (less_is (slice_cmp nat_cmp ys zs) i))
