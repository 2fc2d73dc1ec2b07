-- No definition refuses for want of memory.
use Rattle.std.proofs.Common.{◌≡◌, ℕ, ℤ, pos, negsuc, Bool, true, false, not, List, Option, Some, None, Result, Ok, Err, codes, inl, inr}
use Rattle.std.specs.Str.{bytes_eq}
use Rattle.std.proofs.lemmas.Bool.{cases_Bool}
use Rattle.toml.specs.Data.{Members, integer, string, array, as_integer}
use Rattle.cell_num.specs.Steps.{◌>>=◌, or_fault, require}
use Rattle.tech_file.specs.declared.fault.TechFault.{TechFault}
use Rattle.tech_file.specs.declared.fault.TechFault.TheVariants as fault
use Rattle.tech_file.specs.Technology.{plain}
use Rattle.tech_file.specs.Reading.{Limits, table_of, least_unknown, none_unknown, known_alone, value_at, is_within, within, number_at, lambda_limits, width_limits, budget_limits, height_limits, as_name, name_at, as_models, models_at, texts, share, numbers_of, rails_of, models_of, technology_of, technology}

-- ---- steps

-- what neither step answers, both together do not answer
pub never_step : {A B E : Type 0} (e : E) (r : Result A E) (f : A → Result B E) → (r ≡ Err e → ⊥) → ((a : A) → f a ≡ Err e → ⊥) → (r >>= f) ≡ Err e → ⊥
never_step e (Ok a) f first next h = next a h
never_step e (Err g) f first next h = first cc

pub never_require : {E : Type 0} (e : E) (b : Bool) (g : E) → (g ≡ e → ⊥) → require b g ≡ Err e → ⊥
never_require e true g other h = cc
never_require e false g other h = other cc

pub never_option : {A E : Type 0} (e : E) (o : Option A) (g : E) → (g ≡ e → ⊥) → or_fault o g ≡ Err e → ⊥
never_option e (Some a) g other h = cc
never_option e None g other h = other cc

-- ---- the technology

abbrev Never : {A : Type 0} → Result A TechFault → Type 0
Never r = r ≡ Err fault.NoMemory → ⊥

known_never : (unknown : Option (List ℕ)) → Never (none_unknown unknown)
known_never (Some key) h = cc
known_never None h = cc

within_never : (key : List ℕ) (limits : Limits) (z : ℤ) → Never (within key limits z)
within_never key limits (pos n) h =
    elim (cases_Bool (is_within limits n)) [
      | inl good ↦ let e : ◌≡◌ {A = Result ℕ TechFault} (Ok n) (Err fault.NoMemory) = rw good at h in cc
      | inr bad ↦ let e : ◌≡◌ {A = Result ℕ TechFault} (Err (fault.Range key (pos n))) (Err fault.NoMemory) = rw bad at h in cc
    ]
within_never key limits (negsuc n) h = cc

number_never : (key : List ℕ) (limits : Limits) (members : Members) → Never (number_at key limits members)
number_never key limits members =
    never_step fault.NoMemory (or_fault (as_integer (value_at key (integer (pos limits.plain)) members)) (fault.Form key)) (within key limits)
    (never_option fault.NoMemory (as_integer (value_at key (integer (pos limits.plain)) members)) (fault.Form key) (λ h. cc))
    (within_never key limits)

name_never : (key usual : List ℕ) (members : Members) → Never (name_at key usual members)
name_never key usual members = never_option fault.NoMemory (as_name (value_at key (string usual) members)) (fault.Form key) (λ h. cc)

models_never : (key : List ℕ) (usual : List (List ℕ)) (members : Members) → Never (models_at key usual members)
models_never key usual members = never_option fault.NoMemory (as_models (value_at key (array (texts usual)) members)) (fault.Form key) (λ h. cc)

numbers_never : (members : Members) → Never (numbers_of members)
numbers_never members =
    never_step fault.NoMemory (number_at (codes "lambda_nm") lambda_limits members) _ (number_never (codes "lambda_nm") lambda_limits members) (λ lambda_nm.
    never_step fault.NoMemory (number_at (codes "wmax_p") (width_limits 40) members) _ (number_never (codes "wmax_p") (width_limits 40) members) (λ wmax_p.
    never_step fault.NoMemory (number_at (codes "wmax_n") (width_limits 40) members) _ (number_never (codes "wmax_n") (width_limits 40) members) (λ wmax_n.
    never_step fault.NoMemory (number_at (codes "budget") budget_limits members) _ (number_never (codes "budget") budget_limits members) (λ budget.
    never_step fault.NoMemory (number_at (codes "height") height_limits members) _ (number_never (codes "height") height_limits members) (λ height h. cc)))))

rails_never : (members : Members) → Never (rails_of members)
rails_never members =
    never_step fault.NoMemory (name_at (codes "vdd") plain.vdd members) _ (name_never (codes "vdd") plain.vdd members) (λ vdd.
    never_step fault.NoMemory (name_at (codes "gnd") plain.gnd members) _ (name_never (codes "gnd") plain.gnd members) (λ gnd.
    never_step fault.NoMemory (require (not (bytes_eq vdd gnd)) (fault.Form (codes "gnd"))) _ (never_require fault.NoMemory (not (bytes_eq vdd gnd)) (fault.Form (codes "gnd")) (λ h. cc)) (λ u h. cc)))

kinds_never : (members : Members) → Never (models_of members)
kinds_never members =
    never_step fault.NoMemory (models_at (codes "p_models") plain.p_models members) _ (models_never (codes "p_models") plain.p_models members) (λ p.
    never_step fault.NoMemory (models_at (codes "n_models") plain.n_models members) _ (models_never (codes "n_models") plain.n_models members) (λ n.
    never_step fault.NoMemory (require (not (share p n)) (fault.Form (codes "n_models"))) _ (never_require fault.NoMemory (not (share p n)) (fault.Form (codes "n_models")) (λ h. cc)) (λ u h. cc)))

table_never : (members : Members) → Never (technology_of members)
table_never members =
    never_step fault.NoMemory (known_alone members) _ (known_never (least_unknown members)) (λ u.
    never_step fault.NoMemory (numbers_of members) _ (numbers_never members) (λ numbers.
    never_step fault.NoMemory (rails_of members) _ (rails_never members) (λ rails.
    never_step fault.NoMemory (models_of members) _ (kinds_never members) (λ models h. cc))))

pub technology_never : (bytes : List ℕ) → Never (technology bytes)
technology_never bytes =
    never_step fault.NoMemory (or_fault (table_of bytes) fault.Text) technology_of (never_option fault.NoMemory (table_of bytes) fault.Text (λ h. cc)) table_never
