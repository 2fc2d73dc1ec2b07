-- What is read keeps its limits.
use Rattle.std.proofs.Common.{subst, codes, ◌≡◌, ◌≢◌, ℕ, ℤ, pos, negsuc, ◌%◌, ◌≤◌, ◌==◌, ◌&&◌, not, nat_le, Bool, true, false, List, [], ◌∷◌, length, get_or, Option, Some, None, option_and_then, Result, Ok, Err, refl, ◌∙◌, sym, inl, inr, arith}
use Rattle.std.specs.Char.{to_ascii_lowercase}
use Rattle.std.specs.List.{All, Contains, list_any}
use Rattle.std.specs.Str.{bytes_eq}
use Rattle.std.proofs.lemmas.Bool.{cases_Bool, and_parts, false≢true, leb-true, eqb-true}
use Rattle.std.proofs.lemmas.Bool.Decides.{nat_tests, not_from_Decides}
use Rattle.std.proofs.lemmas.List.Elements.{All-nil, All-cons}
use Rattle.std.proofs.lemmas.List.Folds.{list_any_at}
use Rattle.std.proofs.lemmas.Slice.Eq.{bytes_eq-Decides}
use Rattle.toml.specs.Data.{Items, no_items, item, Members, no_members, integer, string, array, as_str, as_integer, as_array}
use Rattle.tech_file.specs.declared.fault.TechFault.{TechFault}
use Rattle.tech_file.specs.declared.fault.TechFault.TheVariants as fault
use Rattle.cell_num.specs.Names.{lowered, is_name}
use Rattle.tech_file.specs.Technology.{Technology, IsTechnology, IsLowerName, AreModels, plain}
use Rattle.cell_num.specs.Steps.{or_fault, require}
use Rattle.cell_num.proofs.Steps.{granted_step}
use Rattle.tech_file.specs.Reading.{Limits, Numbers, Rails, Models, value_at, is_within, within, number_at, lambda_limits, width_limits, budget_limits, height_limits, name_in, as_name, name_at, with_first, names_in, if_few, models_at, texts, share, known_alone, numbers_of, rails_of, models_of, technology_of}

found : {A : Type 0} (o : Option A) (f : TechFault) (a : A) → or_fault o f ≡ Ok a → o ≡ Some a
found (Some x) f a h = cc
found None f a h = cc

-- ---- integers

within_holds : (key : List ℕ) (limits : Limits) (z : ℤ) (n : ℕ) → within key limits z ≡ Ok n → is_within limits n ≡ true
within_holds key limits (pos k) n h =
    elim (cases_Bool (is_within limits k)) [
      | inl good ↦ let e : ◌≡◌ {A = Result ℕ TechFault} (Ok k) (Ok n) = rw good at h in let same : k ≡ n = cc in rw (← same) good
      | inr bad ↦ let e : ◌≡◌ {A = Result ℕ TechFault} (Err (fault.Range key (pos k))) (Ok n) = rw bad at h in cc
    ]
within_holds key limits (negsuc k) n h = cc

number_holds : (key : List ℕ) (limits : Limits) (members : Members) (n : ℕ) → number_at key limits members ≡ Ok n → is_within limits n ≡ true
number_holds key limits members n h =
    let (z, there, rest) = granted_step (or_fault (as_integer (value_at key (integer (pos limits.plain)) members)) (fault.Form key)) (within key limits) n h in
    within_holds key limits z n rest

record IsIn (limits : Limits) (n : ℕ) : Type 0 where
  least : limits.least ≤ n
  most : n ≤ limits.most
  even : n % limits.step ≡ 0

is_in : (limits : Limits) (n : ℕ) → is_within limits n ≡ true → IsIn limits n
is_in limits n h =
    let (both, steps) = and_parts (nat_le limits.least n && nat_le n limits.most) (n % limits.step == 0) h in
    let (low, high) = and_parts (nat_le limits.least n) (nat_le n limits.most) both in
    record { least = leb-true _ _ low; most = leb-true _ _ high; even = eqb-true _ _ steps }

record AreNumbers (a : Numbers) : Type 0 where
  lambda : IsIn lambda_limits a.lambda_nm
  p : IsIn (width_limits 40) a.wmax_p
  n : IsIn (width_limits 40) a.wmax_n
  budget : IsIn budget_limits a.budget
  height : IsIn height_limits a.height

-- what holds of an answer holds of the same answer
along : {A : Type 0} (P : A → Type 0) (a b : A) → ◌≡◌ {A = Result A TechFault} (Ok a) (Ok b) → P a → P b
along P a b h = let same : a ≡ b = cc in subst P same

along_some : {A : Type 0} (P : A → Type 0) (a b : A) → Some a ≡ Some b → P a → P b
along_some P a b h = let same : a ≡ b = cc in subst P same

numbers_hold : (members : Members) (a : Numbers) → numbers_of members ≡ Ok a → AreNumbers a
numbers_hold members a h =
    let (lambda_nm, is_lambda, then_p) = granted_step (number_at (codes "lambda_nm") lambda_limits members) _ a h in
    let (p, is_p, then_n) = granted_step (number_at (codes "wmax_p") (width_limits 40) members) _ a then_p in
    let (n, is_n, then_budget) = granted_step (number_at (codes "wmax_n") (width_limits 40) members) _ a then_n in
    let (budget, is_budget, then_height) = granted_step (number_at (codes "budget") budget_limits members) _ a then_budget in
    let (height, is_height, same) = granted_step (number_at (codes "height") height_limits members) _ a then_height in
    along AreNumbers (record { lambda_nm = lambda_nm; wmax_p = p; wmax_n = n; budget = budget; height = height }) a same (record {
      lambda = is_in _ _ (number_holds (codes "lambda_nm") lambda_limits members _ is_lambda);
      p = is_in _ _ (number_holds (codes "wmax_p") (width_limits 40) members _ is_p);
      n = is_in _ _ (number_holds (codes "wmax_n") (width_limits 40) members _ is_n);
      budget = is_in _ _ (number_holds (codes "budget") budget_limits members _ is_budget);
      height = is_in _ _ (number_holds (codes "height") height_limits members _ is_height);
    })

-- ---- names

lower_twice : (b : ℕ) → to_ascii_lowercase (to_ascii_lowercase b) ≡ to_ascii_lowercase b
lower_twice b = grind (arith, nat_tests)

lowered_twice : (text : List ℕ) → lowered (lowered text) ≡ lowered text
lowered_twice [] = refl
lowered_twice (b ∷ bs) = rw (lower_twice b, lowered_twice bs)

name_in_holds : (text name : List ℕ) → name_in text ≡ Some name → IsLowerName name
name_in_holds text name h =
    elim (cases_Bool (is_name (lowered text))) [
      | inl good ↦ let e : Some (lowered text) ≡ Some name = rw good at h in along_some IsLowerName (lowered text) name e (record { spelled = good; lower = lowered_twice text })
      | inr bad ↦ let e : ◌≡◌ {A = Option (List ℕ)} None (Some name) = rw bad at h in cc
    ]

text_holds : (text : Option (List ℕ)) (name : List ℕ) → option_and_then name_in text ≡ Some name → IsLowerName name
text_holds None name h = cc
text_holds (Some text) name h = name_in_holds text name h

name_holds : (key usual : List ℕ) (members : Members) (name : List ℕ) → name_at key usual members ≡ Ok name → IsLowerName name
name_holds key usual members name h = text_holds (as_str (value_at key (string usual) members)) name (found _ _ _ h)

allowed : (b : Bool) (f : TechFault) (u : Unit {0}) → require (not b) f ≡ Ok u → b ≡ false
allowed true f u h = cc
allowed false f u h = refl

record AreRails (rails : Rails) : Type 0 where
  vdd : IsLowerName rails.vdd
  gnd : IsLowerName rails.gnd
  differ : rails.vdd ≢ rails.gnd

rails_hold : (members : Members) (rails : Rails) → rails_of members ≡ Ok rails → AreRails rails
rails_hold members rails h =
    let (vdd, is_vdd, then_gnd) = granted_step (name_at (codes "vdd") plain.vdd members) _ rails h in
    let (gnd, is_gnd, then_differ) = granted_step (name_at (codes "gnd") plain.gnd members) _ rails then_gnd in
    let (u, is_allowed, same) = granted_step (require (not (bytes_eq vdd gnd)) (fault.Form (codes "gnd"))) _ rails then_differ in
    along AreRails (record { vdd = vdd; gnd = gnd }) rails same (record {
      vdd = name_holds (codes "vdd") plain.vdd members _ is_vdd;
      gnd = name_holds (codes "gnd") plain.gnd members _ is_gnd;
      differ = not_from_Decides _ (bytes_eq-Decides vdd gnd) (allowed _ _ _ is_allowed);
    })

-- ---- models

first_holds : (first : Option (List ℕ)) (rest : Option (List (List ℕ))) (names : List (List ℕ)) → ((n : List ℕ) → first ≡ Some n → IsLowerName n) → ((ns : List (List ℕ)) → rest ≡ Some ns → All IsLowerName ns)
    → with_first first rest ≡ Some names → All IsLowerName names
first_holds (Some n) (Some ns) names f r h = along_some (All IsLowerName) (n ∷ ns) names h (All-cons IsLowerName n ns (f n refl) (r ns refl))
first_holds (Some n) None names f r h = cc
first_holds None (Some ns) names f r h = cc
first_holds None None names f r h = cc

names_hold : (items : Items) (names : List (List ℕ)) → names_in items ≡ Some names → All IsLowerName names
names_hold no_items names h = along_some (All IsLowerName) [] names h (All-nil IsLowerName)
names_hold (item value values) names h = first_holds (as_name value) (names_in values) names (text_holds (as_str value)) (names_hold values) h

few_hold : (these those : List (List ℕ)) → if_few these ≡ Some those → All IsLowerName these → AreModels those
few_hold these those h spelled =
    elim (cases_Bool (nat_le 1 (length these) && nat_le (length these) 16)) [
      | inl good ↦
          let e : Some these ≡ Some those = rw good at h in
          let (some, few) = and_parts (nat_le 1 (length these)) (nat_le (length these) 16) good in
          along_some AreModels these those e (record { some = leb-true _ _ some; few = leb-true _ _ few; spelled = spelled })
      | inr bad ↦ let e : ◌≡◌ {A = Option (List (List ℕ))} None (Some those) = rw bad at h in cc
    ]

listed_hold : (items : Option Items) (names : List (List ℕ)) → option_and_then if_few (option_and_then names_in items) ≡ Some names → AreModels names
listed_hold None names h = cc
listed_hold (Some items) names h = few_of (names_in items) (names_hold items) h
  where
    few_of : (read : Option (List (List ℕ))) → ((ns : List (List ℕ)) → read ≡ Some ns → All IsLowerName ns) → option_and_then if_few read ≡ Some names → AreModels names
    few_of None spelled h = cc
    few_of (Some ns) spelled h = few_hold ns names h (spelled ns refl)

models_at_hold : (key : List ℕ) (usual : List (List ℕ)) (members : Members) (names : List (List ℕ)) → models_at key usual members ≡ Ok names → AreModels names
models_at_hold key usual members names h = listed_hold (as_array (value_at key (array (texts usual)) members)) names (found _ _ _ h)

-- lists that share no name
differ_from_share : (these those : List (List ℕ)) → share these those ≡ false → All (λ name. Contains these name → ⊥) those
differ_from_share these those h = λ k d inside within.
    let name : List ℕ = get_or those k d in
    let same : bytes_eq (get_or these within.0 name) name ≡ true = (bytes_eq-Decides (get_or these within.0 name) name).1 within.2 in
    let here : list_any (λ other. bytes_eq other name) these ≡ true = list_any_at (λ other. bytes_eq other name) these within.0 name within.1 same in
    let shared : share these those ≡ true = list_any_at (λ n. list_any (λ other. bytes_eq other n) these) those k d inside here in
    false≢true (sym h ∙ shared)

record AreKinds (models : Models) : Type 0 where
  p : AreModels models.p
  n : AreModels models.n
  differ : All (λ name. Contains models.p name → ⊥) models.n

models_hold : (members : Members) (models : Models) → models_of members ≡ Ok models → AreKinds models
models_hold members models h =
    let (p, is_p, then_n) = granted_step (models_at (codes "p_models") plain.p_models members) _ models h in
    let (n, is_n, then_differ) = granted_step (models_at (codes "n_models") plain.n_models members) _ models then_n in
    let (u, is_allowed, same) = granted_step (require (not (share p n)) (fault.Form (codes "n_models"))) _ models then_differ in
    along AreKinds (record { p = p; n = n }) models same (record {
      p = models_at_hold (codes "p_models") plain.p_models members _ is_p;
      n = models_at_hold (codes "n_models") plain.n_models members _ is_n;
      differ = differ_from_share p n (allowed _ _ _ is_allowed);
    })

-- ---- the technology

pub limits_hold : (members : Members) (t : Technology) → technology_of members ≡ Ok t → IsTechnology t
limits_hold members t h =
    let (known, is_known, then_numbers) = granted_step (known_alone members) _ t h in
    let (numbers, are_numbers, then_rails) = granted_step (numbers_of members) _ t then_numbers in
    let (rails, are_rails, then_models) = granted_step (rails_of members) _ t then_rails in
    let (models, are_models, same) = granted_step (models_of members) _ t then_models in
    let ns = numbers_hold members numbers are_numbers in
    let rs = rails_hold members rails are_rails in
    let ms = models_hold members models are_models in
    along IsTechnology (record { lambda_nm = numbers.lambda_nm; wmax_p = numbers.wmax_p; wmax_n = numbers.wmax_n; vdd = rails.vdd; gnd = rails.gnd; p_models = models.p; n_models = models.n; budget = numbers.budget; height = numbers.height }) t same (record {
      lambda_even = ns.lambda.even;
      lambda_least = ns.lambda.least;
      lambda_most = ns.lambda.most;
      wmax_p_least = ns.p.least;
      wmax_p_most = ns.p.most;
      wmax_n_least = ns.n.least;
      wmax_n_most = ns.n.most;
      budget_least = ns.budget.least;
      budget_most = ns.budget.most;
      height_most = ns.height.most;
      vdd = rs.vdd;
      gnd = rs.gnd;
      rails_differ = rs.differ;
      p_models = ms.p;
      n_models = ms.n;
      kinds_differ = ms.differ;
    })

-- the plain technology is what a table without keys says
pub plain_holds : IsTechnology plain
plain_holds = limits_hold no_members plain refl
