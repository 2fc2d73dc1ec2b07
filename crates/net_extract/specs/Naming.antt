-- Names of nets, from the labels that each net holds. A net may hold one label many times, but no two different ones,
-- and a label is in one net.
use Rattle.std.specs.Prelude.{◌≡◌, ℕ, Bool, not, ◌&&◌, ◌==◌, Option, Some}
use Rattle.std.specs.Prelude.{None, is_some, List, ◌++◌, map, codes, decimal}
use Rattle.std.specs.Option.{option_map}
use Rattle.std.specs.List.{find, list_any, range_with_len}
use Rattle.std.specs.Str.{bytes_eq}
use Rattle.net_extract.specs.declared.naming.NetLabel.{NetLabel}
use Rattle.net_extract.specs.declared.fault.ExtractFault.{ExtractFault}
use Rattle.net_extract.specs.declared.fault.ExtractFault.TheVariants.{Short, Split, NoMemory}

-- the first label of a net
abbrev pub label_of : ℕ → List NetLabel → Option (List ℕ)
label_of n held = option_map (λ (h : NetLabel). h.name) (find (λ (h : NetLabel). h.net == n) held)

-- the first label of a net that differs from a name
abbrev pub first_other : List ℕ → ℕ → List NetLabel → Option (List ℕ)
first_other one n held =
    option_map (λ (h : NetLabel). h.name) (find (λ (h : NetLabel). (h.net == n) && not (bytes_eq h.name one)) held)

abbrev pub other_than : Option (List ℕ) → ℕ → List NetLabel → Option (List ℕ)
other_than (Some one) n held = first_other one n held
other_than None n held = None

-- the first label of a net that differs from the net's first label
abbrev pub other_of : ℕ → List NetLabel → Option (List ℕ)
other_of n held = other_than (label_of n held) n held

-- the first of some nets with two different labels
abbrev pub short_net : List NetLabel → ℕ → Option ℕ
short_net held count = find (λ n. is_some (other_of n held)) (range_with_len 0 count)

-- a label's name is in another net as well
abbrev pub stands_elsewhere : List NetLabel → NetLabel → Bool
stands_elsewhere held label = list_any (λ (h : NetLabel). not (h.net == label.net) && bytes_eq h.name label.name) held

-- the first label that is in two nets
abbrev pub split_name : List NetLabel → Option (List ℕ)
split_name held = option_map (λ (h : NetLabel). h.name) (find (stands_elsewhere held) held)

-- no net has two labels, no label two nets
pub record IsAgreed (held : List NetLabel) (count : ℕ) : Type 0 where
  pub no_short : short_net held count ≡ None
  pub no_split : split_name held ≡ None

-- a net's name is its first label, or `_` and its number where it has none
abbrev pub name_or_number : ℕ → Option (List ℕ) → List ℕ
name_or_number n (Some name) = name
name_or_number n None = codes "_" ++ decimal n

abbrev pub name_of : List NetLabel → ℕ → List ℕ
name_of held n = name_or_number n (label_of n held)

-- the names of all nets by number
abbrev pub names_of : List NetLabel → ℕ → List (List ℕ)
names_of held count = map (name_of held) (range_with_len 0 count)

-- the first net with two labels, its first label and the first other one
pub record IsShort (held : List NetLabel) (count : ℕ) (one other : List ℕ) : Type 0 where
  pub net : ℕ
  pub short : short_net held count ≡ Some net
  pub first : label_of net held ≡ Some one
  pub differs : other_of net held ≡ Some other

-- the first label that is in two nets, where no net has two labels
pub record IsSplit (held : List NetLabel) (count : ℕ) (name : List ℕ) : Type 0 where
  pub no_short : short_net held count ≡ None
  pub split : split_name held ≡ Some name

abbrev pub IsNameFault : List NetLabel → ℕ → ExtractFault → Type 0
IsNameFault held count (Short one other) = IsShort held count one other
IsNameFault held count (Split name) = IsSplit held count name
IsNameFault held count NoMemory = Unit {0}
IsNameFault held count _ = ⊥

-- ---- what single steps answer; out of memory may be the answer in place of each
abbrev pub IsShortOf : List ℕ → List ℕ → ExtractFault → Type 0
IsShortOf one other (Short a b) = (a ≡ one) × (b ≡ other)
IsShortOf one other NoMemory = Unit {0}
IsShortOf one other _ = ⊥

abbrev pub IsShortIn : List NetLabel → ℕ → ExtractFault → Type 0
IsShortIn held net (Short one other) = (label_of net held ≡ Some one) × (other_of net held ≡ Some other)
IsShortIn held net NoMemory = Unit {0}
IsShortIn held net _ = ⊥

abbrev pub IsSplitOf : List ℕ → ExtractFault → Type 0
IsSplitOf name (Split a) = a ≡ name
IsSplitOf name NoMemory = Unit {0}
IsSplitOf name _ = ⊥
