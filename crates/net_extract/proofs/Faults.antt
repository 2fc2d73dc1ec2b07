-- Which fault the labels of a drawing have.
use Rattle.std.proofs.Common.{◌≡◌, ℕ, Bool, true, false, IsTrue, Option, Some, None, is_some, List, [], ◌∷◌, refl, sym, ap, subst, ◌∙◌}
use Rattle.std.specs.List.{find, range_with_len}
use Rattle.cell_num.proofs.Lists.{some_same}
use Rattle.net_extract.specs.declared.naming.NetLabel.{NetLabel}
use Rattle.net_extract.specs.declared.fault.ExtractFault.{ExtractFault}
use Rattle.net_extract.specs.declared.fault.ExtractFault.TheVariants.{TooMany, OddDevice, Stray, Short, Split, NoMemory}
use Rattle.net_extract.specs.Naming.{label_of, other_than, other_of, short_net, split_name, IsShortIn, IsSplitOf, IsNameFault}

-- the test holds of what is found
find_holds : {X : Type 0} (p : X → Bool) (xs : List X) (x : X) → find p xs ≡ Some x → p x ≡ true
find_holds p [] x e = absurd cc
find_holds {X} p (y ∷ ys) x e = at (p y) refl e (λ f. find_holds p ys x f)
  where
    at : (b : Bool) → p y ≡ b → find p (y ∷ ys) ≡ Some x → (find p ys ≡ Some x → p x ≡ true) → p x ≡ true
    at true t f rest = subst (λ z. p z ≡ true) (some_same y x (let u : find p (y ∷ ys) ≡ Some y = rw t refl in sym u ∙ f)) t
    at false t f rest = rest (let u : find p (y ∷ ys) ≡ find p ys = rw t refl in sym u ∙ f)

pub short_has : (held : List NetLabel) (count net : ℕ) → short_net held count ≡ Some net → IsTrue (is_some (other_of net held))
short_has held count net e = find_holds (λ n. is_some (other_of n held)) (range_with_len 0 count) net e

-- a net without a label has no other one
no_other : (held : List NetLabel) (net : ℕ) (o : Option (List ℕ)) → o ≡ None → is_some (other_than o net held) ≡ false
no_other held net None e = refl
no_other held net (Some one) e = absurd cc

pub other_has_label : (held : List NetLabel) (net : ℕ) → IsTrue (is_some (other_of net held)) → label_of net held ≡ None → ⊥
other_has_label held net t e = let f : is_some (other_of net held) ≡ false = no_other held net (label_of net held) e in absurd cc

pub short_is : (held : List NetLabel) (count net : ℕ) (f : ExtractFault) → short_net held count ≡ Some net → IsShortIn held net f → IsNameFault held count f
short_is held count net (Short one other) e (a, b) = record { net = net; short = e; first = a; differs = b }
short_is held count net NoMemory e u = tt
short_is held count net (TooMany n) e u = absurd u
short_is held count net (OddDevice x y) e u = absurd u
short_is held count net (Stray name) e u = absurd u
short_is held count net (Split name) e u = absurd u

pub split_is : (held : List NetLabel) (count : ℕ) (name : List ℕ) (f : ExtractFault) → short_net held count ≡ None → split_name held ≡ Some name → IsSplitOf name f → IsNameFault held count f
split_is held count name (Split a) e s q = record { no_short = e; split = s ∙ ap (λ z. Some z) (sym q) }
split_is held count name NoMemory e s u = tt
split_is held count name (TooMany n) e s u = absurd u
split_is held count name (OddDevice x y) e s u = absurd u
split_is held count name (Stray a) e s u = absurd u
split_is held count name (Short a b) e s u = absurd u

pub ruleset short_rules = (short_has, short_is)

pub ruleset split_rules = (split_is)
