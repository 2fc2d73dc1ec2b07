-- What a text says of a technology: keys of a TOML table, each with a plain value where it is absent.
use Rattle.std.specs.Prelude.{ℕ, ℤ, pos, negsuc, ◌%◌, ◌==◌, ◌&&◌, not, nat_le, Bool, List, [], ◌∷◌, length, codes}
use Rattle.std.specs.Prelude.{bytes_eq, Option, Some, None, option_and_then, unwrap_or, Result, Ok, Err, if◌then◌else◌}
use Rattle.std.specs.List.{list_any}
use Rattle.std.specs.Str.{is_utf8}
use Rattle.std.specs.Ordering.{is_lt, nat_cmp}
use Rattle.std.specs.Cmp.Lexicographic.{slice_cmp}
use Rattle.toml.specs.Data.{Data, string, integer, array, Items, no_items, item, Members}
use Rattle.toml.specs.Data.{no_members, member, get_member, as_integer, as_str, as_array}
use Rattle.toml.specs.Parse.{parse_document}
use Rattle.tech_file.specs.declared.fault.TechFault.{TechFault}
use Rattle.tech_file.specs.declared.fault.TechFault.TheVariants as fault
use Rattle.cell_num.specs.Names.{lowered, is_name}
use Rattle.cell_num.specs.Steps.{require, or_fault, ◌>>=◌}
use Rattle.tech_file.specs.Technology.{Technology, plain}

-- ---- the table

-- the table of a TOML document
abbrev pub table_of : List ℕ → Option Members
table_of bytes = if is_utf8 bytes then parse_document bytes else None

abbrev pub known_keys : List (List ℕ)
known_keys =
    codes "lambda_nm" ∷ codes "wmax_p" ∷ codes "wmax_n" ∷ codes "budget" ∷ codes "height" ∷ codes "vdd" ∷ codes "gnd" ∷
    codes "p_models" ∷ codes "n_models" ∷ []

abbrev pub is_known : List ℕ → Bool
is_known key = list_any (λ known. bytes_eq key known) known_keys

-- the lesser of two keys by their bytes, where the second is there
abbrev pub lesser : List ℕ → Option (List ℕ) → List ℕ
lesser key None = key
lesser key (Some other) = if is_lt (slice_cmp nat_cmp key other) then key else other

-- the least key by its bytes that is not known
abbrev pub least_unknown : Members → Option (List ℕ)
least_unknown no_members = None
least_unknown (member key value members) =
    if is_known key then least_unknown members else Some (lesser key (least_unknown members))

abbrev pub none_unknown : Option (List ℕ) → Result (Unit {0}) TechFault
none_unknown (Some key) = Err (fault.Key key)
none_unknown None = Ok tt

abbrev pub known_alone : Members → Result (Unit {0}) TechFault
known_alone members = none_unknown (least_unknown members)

-- the value of a key, or its plain value
abbrev pub value_at : List ℕ → Data → Members → Data
value_at key usual members = unwrap_or (get_member key members) usual

-- ---- integers

-- Which integers a key takes: those from the least to the most that are multiples of the step. Where the
-- key is absent, it has the plain value.
pub record Limits : Type 0 where
  pub plain : ℕ
  pub least : ℕ
  pub most : ℕ
  pub step : ℕ

abbrev pub is_within : Limits → ℕ → Bool
is_within limits n = nat_le limits.least n && nat_le n limits.most && (n % limits.step == 0)

abbrev pub within : List ℕ → Limits → ℤ → Result ℕ TechFault
within key limits (pos n) = if is_within limits n then Ok n else Err (fault.Range key (pos n))
within key limits (negsuc n) = Err (fault.Range key (negsuc n))

abbrev pub number_at : List ℕ → Limits → Members → Result ℕ TechFault
number_at key limits members =
    or_fault (as_integer (value_at key (integer (pos limits.plain)) members)) (fault.Form key) >>= within key limits

abbrev pub lambda_limits : Limits
lambda_limits = record { plain = plain.lambda_nm; least = 20; most = 2000; step = 2 }

abbrev pub width_limits : ℕ → Limits
width_limits usual = record { plain = usual; least = 12; most = 400; step = 1 }

abbrev pub budget_limits : Limits
budget_limits = record { plain = plain.budget; least = 1; most = 1000000; step = 1 }

abbrev pub height_limits : Limits
height_limits = record { plain = plain.height; least = 0; most = 4000; step = 1 }

-- ---- names

-- the name that a text is, in lower case
abbrev pub name_in : List ℕ → Option (List ℕ)
name_in text = if is_name (lowered text) then Some (lowered text) else None

abbrev pub as_name : Data → Option (List ℕ)
as_name value = option_and_then name_in (as_str value)

abbrev pub name_at : List ℕ → List ℕ → Members → Result (List ℕ) TechFault
name_at key usual members = or_fault (as_name (value_at key (string usual) members)) (fault.Form key)

abbrev pub with_first : Option (List ℕ) → Option (List (List ℕ)) → Option (List (List ℕ))
with_first (Some name) (Some names) = Some (name ∷ names)
with_first _ _ = None

-- the names that all of the items are
abbrev pub names_in : Items → Option (List (List ℕ))
names_in no_items = Some []
names_in (item value values) = with_first (as_name value) (names_in values)

abbrev pub most_models : ℕ
most_models = 16

-- from 1 to so many
abbrev pub if_few : List (List ℕ) → Option (List (List ℕ))
if_few names = if nat_le 1 (length names) && nat_le (length names) most_models then Some names else None

abbrev pub as_models : Data → Option (List (List ℕ))
as_models value = option_and_then if_few (option_and_then names_in (as_array value))

-- an array of texts
abbrev pub texts : List (List ℕ) → Items
texts [] = no_items
texts (text ∷ more) = item (string text) (texts more)

abbrev pub models_at : List ℕ → List (List ℕ) → Members → Result (List (List ℕ)) TechFault
models_at key usual members = or_fault (as_models (value_at key (array (texts usual)) members)) (fault.Form key)

-- a name stands in both lists
abbrev pub share : List (List ℕ) → List (List ℕ) → Bool
share these those = list_any (λ name. list_any (λ other. bytes_eq other name) these) those

-- ---- the technology

pub record Numbers : Type 0 where
  pub lambda_nm : ℕ
  pub wmax_p : ℕ
  pub wmax_n : ℕ
  pub budget : ℕ
  pub height : ℕ

abbrev pub numbers_of : Members → Result Numbers TechFault
numbers_of members = do
  lambda_nm ← number_at (codes "lambda_nm") lambda_limits members
  wmax_p ← number_at (codes "wmax_p") (width_limits plain.wmax_p) members
  wmax_n ← number_at (codes "wmax_n") (width_limits plain.wmax_n) members
  budget ← number_at (codes "budget") budget_limits members
  height ← number_at (codes "height") height_limits members
  Ok (record { lambda_nm = lambda_nm; wmax_p = wmax_p; wmax_n = wmax_n; budget = budget; height = height })

-- the two rails, which differ
pub record Rails : Type 0 where
  pub vdd : List ℕ
  pub gnd : List ℕ

abbrev pub rails_of : Members → Result Rails TechFault
rails_of members = do
  vdd ← name_at (codes "vdd") plain.vdd members
  gnd ← name_at (codes "gnd") plain.gnd members
  _ ← require (not (bytes_eq vdd gnd)) (fault.Form (codes "gnd"))
  Ok (record { vdd = vdd; gnd = gnd })

-- the models of both kinds of transistors, which share no name
pub record Models : Type 0 where
  pub p : List (List ℕ)
  pub n : List (List ℕ)

abbrev pub models_of : Members → Result Models TechFault
models_of members = do
  p ← models_at (codes "p_models") plain.p_models members
  n ← models_at (codes "n_models") plain.n_models members
  _ ← require (not (share p n)) (fault.Form (codes "n_models"))
  Ok (record { p = p; n = n })

-- the technology of a table, or the first fault
abbrev pub technology_of : Members → Result Technology TechFault
technology_of members = do
  _ ← known_alone members
  numbers ← numbers_of members
  rails ← rails_of members
  models ← models_of members
  Ok (record {
    lambda_nm = numbers.lambda_nm;
    wmax_p = numbers.wmax_p;
    wmax_n = numbers.wmax_n;
    vdd = rails.vdd;
    gnd = rails.gnd;
    p_models = models.p;
    n_models = models.n;
    budget = numbers.budget;
    height = numbers.height;
  })

-- The technology that bytes say, or the first fault.
abbrev pub technology : List ℕ → Result Technology TechFault
technology bytes = or_fault (table_of bytes) fault.Text >>= technology_of
