-- The pins of a subcircuit: when they are accepted, and the rails behind them.
use Rattle.std.proofs.Common.{ℕ, ◌≡◌, ◌<◌, ◌≤◌, ◌&&◌, Bool, true, false, cond, List, [], ◌∷◌, length, filter, drop, not, refl, sym, ap, ◌∙◌, inl, inr, arith, Bor}
use Rattle.std.specs.Prelude.{bytes_eq, Ok, Err, find}
use Rattle.std.specs.List.{list_all}
use Rattle.std.proofs.lemmas.Bool.{cases_Bool, eq-eqb, ne_eqb}
use Rattle.std.proofs.lemmas.List.{length-map}
use Rattle.std.proofs.lemmas.List.Filters.{length-filter_both}
use Rattle.cell_num.specs.Names.{is_name}
use Rattle.spice_text.specs.declared.logical.Line.{Line}
use Rattle.tech_file.specs.Technology.{Technology}
use Rattle.spice_net.specs.declared.fault.SpiceFault.TheVariants as fault
use Rattle.spice_net.specs.Transistors.{Transistor}
use Rattle.spice_net.specs.Chosen.{has_name, is_global}
use Rattle.spice_net.specs.Nets.{distinct, named_nets}
use Rattle.spice_net.specs.Reader.{names_of, with_name, with_names}
use Rattle.spice_net.specs.Subcircuit.{pins_of, with_rail, with_rails, is_idle, idle_pin}
use Rattle.spice_net.proofs.NetFacts.{length_distinct, distinct_more, distinct_behind}
use Rattle.spice_net.proofs.SoundNets.{has_distinct}

-- ---- a list of names from which nothing is dropped

unfiltered : (p : List ℕ → Bool) (xs : List (List ℕ)) → length xs ≤ length (filter p xs) → filter p xs ≡ xs
unfiltered p [] le = refl
unfiltered p (x ∷ xs) le = elim (cases_Bool (p x)) [
  | inl passes ↦ rw passes (ap (λ (ys : List (List ℕ)). x ∷ ys) (unfiltered p xs (omega (arith, ap (λ (b : Bool). length (cond b (x ∷ filter p xs) (filter p xs))) passes, le))))
  | inr fails ↦ absurd (omega (arith, ap (λ (b : Bool). length (cond b (x ∷ filter p xs) (filter p xs))) fails, le, length-filter_both p (λ y. not (p y)) (λ _. refl) xs))
]

undropped : (names : List (List ℕ)) → length names ≤ length (distinct names) → distinct names ≡ names
undropped [] le = refl
undropped (name ∷ names) le =
    let most : length (filter (λ other. not (bytes_eq other name)) (distinct names)) ≤ length (distinct names) = omega (arith, length-filter_both (λ other. not (bytes_eq other name)) (λ other. not (not (bytes_eq other name))) (λ _. refl) (distinct names)) in
    let behind : distinct names ≡ names = undropped names (omega (arith, most, le)) in
    let kept : filter (λ other. not (bytes_eq other name)) (distinct names) ≡ distinct names = unfiltered (λ other. not (bytes_eq other name)) (distinct names) (omega (arith, length_distinct names, le)) in
    ap (λ (ns : List (List ℕ)). name ∷ ns) (kept ∙ behind)

-- ---- the listed pins

pub pins_repeat : (line : Line) (ks : List (Bor (List ℕ))) → names_of ks ≡ distinct (drop 2 line.words) → length ks < length (drop 2 line.words) → pins_of line ≡ Err (fault.Fields line.number)
pins_repeat line ks e lt =
    let long : length ks ≡ length (distinct (drop 2 line.words)) = sym (length-map ks (λ k. k.now)) ∙ ap length e in
    rw (ne_eqb (length (distinct (drop 2 line.words))) (length (drop 2 line.words)) (λ same. omega (arith, long, lt, same)), never (list_all is_name (drop 2 line.words))) refl
  where
    never : (b : Bool) → (b && false) ≡ false
    never true = refl
    never false = refl

pub pins_unnamed : (line : Line) → list_all is_name (drop 2 line.words) ≡ false → pins_of line ≡ Err (fault.Fields line.number)
pins_unnamed line e = rw e refl

pub pins_differ : (line : Line) (ks : List (Bor (List ℕ))) → names_of ks ≡ distinct (drop 2 line.words) → length (drop 2 line.words) ≤ length ks → list_all is_name (drop 2 line.words) ≡ true → pins_of line ≡ Ok (names_of ks)
pins_differ line ks e le named =
    let long : length ks ≡ length (distinct (drop 2 line.words)) = sym (length-map ks (λ k. k.now)) ∙ ap length e in
    let same : names_of ks ≡ drop 2 line.words = e ∙ undropped (drop 2 line.words) (omega (arith, long, le)) in
    rw (same, named, eq-eqb (length (distinct (drop 2 line.words))) (length (drop 2 line.words)) (omega (arith, long, le, length_distinct (drop 2 line.words)))) refl

pub pins_once : (line : Line) (ks : List (Bor (List ℕ))) → names_of ks ≡ distinct (drop 2 line.words) → length (drop 2 line.words) ≤ length ks → distinct (names_of ks) ≡ names_of ks
pins_once line ks e le =
    let long : length ks ≡ length (distinct (drop 2 line.words)) = sym (length-map ks (λ k. k.now)) ∙ ap length e in
    let same : names_of ks ≡ drop 2 line.words = e ∙ undropped (drop 2 line.words) (omega (arith, long, le)) in
    rw same (undropped (drop 2 line.words) (omega (arith, long, le)))

-- ---- the rails behind them

pub rail_there : (lines : List Line) (rail : List ℕ) (pins : List (List ℕ)) → is_global lines rail ≡ true → with_name pins rail ≡ with_rail lines rail pins
rail_there lines rail pins e = elim (cases_Bool (has_name pins rail)) [
  | inl there ↦ rw there refl
  | inr new ↦ rw (new, e) refl
]

pub no_rail : (lines : List Line) (rail : List ℕ) (pins : List (List ℕ)) → is_global lines rail ≡ false → with_rail lines rail pins ≡ pins
no_rail lines rail pins e = elim (cases_Bool (has_name pins rail)) [
  | inl there ↦ rw there refl
  | inr new ↦ rw (new, e) refl
]

pub rail_distinct : (lines : List Line) (rail : List ℕ) (pins : List (List ℕ)) → distinct pins ≡ pins → distinct (with_rail lines rail pins) ≡ with_rail lines rail pins
rail_distinct lines rail pins e = elim (cases_Bool (is_global lines rail)) [
  | inl global ↦ elim (cases_Bool (has_name pins rail)) [
    | inl there ↦ rw there e
    | inr new ↦ rw (new, global) (distinct_more pins rail ∙ (ap (λ (ns : List (List ℕ)). with_name ns rail) e ∙ (rw new refl)))
  ]
  | inr local ↦ let none : with_rail lines rail pins ≡ pins = no_rail lines rail pins local in rw none e
]

pub rails_distinct : (tech : Technology) (lines : List Line) (pins : List (List ℕ)) → distinct pins ≡ pins → distinct (with_rails tech lines pins) ≡ with_rails tech lines pins
rails_distinct tech lines pins e = rail_distinct lines tech.gnd (with_rail lines tech.vdd pins) (rail_distinct lines tech.vdd pins e)

-- ---- pins that no transistor names

find_alike : (p q : List ℕ → Bool) (xs : List (List ℕ)) → ((x : List ℕ) → p x ≡ q x) → find p xs ≡ find q xs
find_alike p q [] same = refl
find_alike p q (x ∷ xs) same = rw (same x, find_alike p q xs same) refl

pub idle_among : (tech : Technology) (pins named : List (List ℕ)) (ts : List Transistor) → named ≡ with_names [] (named_nets ts) → find (is_idle tech named) pins ≡ idle_pin tech pins ts
idle_among tech pins named ts e =
    let once : named ≡ distinct (named_nets ts) = e ∙ distinct_behind [] (named_nets ts) in
    find_alike (is_idle tech named) (is_idle tech (named_nets ts)) pins (λ pin. rw (once, has_distinct pin (named_nets ts)) refl)

pub ruleset pin_rules = (pins_repeat, pins_unnamed, pins_differ, pins_once)
