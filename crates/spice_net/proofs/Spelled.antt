-- Each net of a subcircuit that is read has a name that is spelled as names are.
use Rattle.std.proofs.Common.{ℕ, ◌≡◌, ◌==◌, ◌&&◌, not, true, false, List, [], ◌∷◌, ◌++◌, length, drop, refl, sym, subst, ◌∙◌, inl, inr}
use Rattle.std.specs.Prelude.{IsTrue, bytes_eq, nat_le, Result, Ok, codes}
use Rattle.std.specs.List.{list_all}
use Rattle.std.proofs.lemmas.Bool.{cases_Bool, and_parts}
use Rattle.std.proofs.lemmas.List.Elements.{All-append, All-cons, All-filter, All-head, All-nil, All-tail}
use Rattle.std.proofs.lemmas.List.Sums.{AllPass-from_list_all}
use Rattle.cell_num.specs.declared.finger.Row.{Row}
use Rattle.cell_num.specs.Names.{is_name}
use Rattle.cell_num.specs.Steps.{require, ◌>>=◌}
use Rattle.cell_num.proofs.Steps.{granted_step, granted_require, granted_option}
use Rattle.spice_text.specs.declared.logical.Line.{Line}
use Rattle.tech_file.specs.Technology.{Technology, IsTechnology}
use Rattle.spice_net.specs.declared.fault.SpiceFault.{SpiceFault}
use Rattle.spice_net.specs.declared.fault.SpiceFault.TheVariants as fault
use Rattle.spice_net.specs.declared.subckt.Subckt.{Subckt}
use Rattle.spice_net.specs.Chosen.{first_is, has_name, is_global, chosen_in, without_comments, lines_in}
use Rattle.spice_net.specs.Nets.{distinct, named_nets, nets_of}
use Rattle.spice_net.specs.Subcircuit.{pins_of, with_rail, with_rails, subckt_in, subckt_of, subckt_with, subcircuit}
use Rattle.spice_net.specs.Reader.{transistor_as}
use Rattle.spice_net.specs.Subckts.{AreNames}
use Rattle.spice_net.specs.declared.sizes.Sizes.{Sizes}
use Rattle.spice_net.specs.Numbers.{least_width}
use Rattle.spice_net.specs.Parameters.{is_parameter, value_of}
use Rattle.spice_net.specs.Transistors.{Fields, Transistor, fields_of, is_transistor, own_rail, rails_allowed, row_of, sizes_of, transistor_of, transistor_with, transistors_of, with_line}
use Rattle.spice_net.proofs.Sound.{accepted}
use Rattle.spice_net.proofs.SoundLines.{ok_is, oks_are}

abbrev IsName : List ℕ → Type 0
IsName name = IsTrue (is_name name)

-- ---- the nets of a transistor

record AreFieldNames (fields : Fields) : Type 0 where
  drain : IsName fields.drain
  gate : IsName fields.gate
  source : IsName fields.source

AreTransistorNames : Transistor → Type 0
AreTransistorNames t = AreNames (t.drain ∷ t.gate ∷ t.source ∷ [])

fields_names : (line : ℕ) (words : List (List ℕ)) (fields : Fields) → fields_of line words ≡ Ok fields → AreFieldNames fields
fields_names line [] fields e = absurd cc
fields_names line (a ∷ []) fields e = absurd cc
fields_names line (a ∷ b ∷ []) fields e = absurd cc
fields_names line (a ∷ b ∷ c ∷ []) fields e = absurd cc
fields_names line (a ∷ b ∷ c ∷ d ∷ []) fields e = absurd cc
fields_names line (a ∷ b ∷ c ∷ d ∷ f ∷ []) fields e = absurd cc
fields_names line (name ∷ drain ∷ gate ∷ source ∷ bulk ∷ model ∷ parameters) fields e =
    let spelled = granted_require (list_all is_name (name ∷ drain ∷ gate ∷ source ∷ bulk ∷ model ∷ [])) (fault.Fields line) _ fields e in
    let keyed = granted_require (list_all is_parameter parameters) (fault.Fields line) _ fields spelled.1 in
    let width = granted_option (value_of (codes "w=") parameters) (fault.Fields line) _ fields keyed.1 in
    let channel = granted_option (value_of (codes "l=") parameters) (fault.Fields line) _ fields width.2 in
    let first = and_parts (is_name name) (list_all is_name (drain ∷ gate ∷ source ∷ bulk ∷ model ∷ [])) spelled.0 in
    let second = and_parts (is_name drain) (list_all is_name (gate ∷ source ∷ bulk ∷ model ∷ [])) first.1 in
    let third = and_parts (is_name gate) (list_all is_name (source ∷ bulk ∷ model ∷ [])) second.1 in
    let fourth = and_parts (is_name source) (list_all is_name (bulk ∷ model ∷ [])) third.1 in
    let d : drain ≡ fields.drain = cc in
    let g : gate ≡ fields.gate = cc in
    let s : source ≡ fields.source = cc in
    record { drain = subst IsName d second.0; gate = subst IsName g third.0; source = subst IsName s fourth.0 }

three_names : (fields : Fields) → AreFieldNames fields → AreNames (fields.drain ∷ fields.gate ∷ fields.source ∷ [])
three_names fields names = All-cons IsName fields.drain (fields.gate ∷ fields.source ∷ []) names.drain (All-cons IsName fields.gate (fields.source ∷ []) names.gate (All-cons IsName fields.source [] names.source (All-nil IsName)))

names_with : (tech : Technology) (line : ℕ) (fields : Fields) (t : Transistor) → AreFieldNames fields → transistor_with tech line fields ≡ Ok t → AreTransistorNames t
unfolding AreTransistorNames
names_with tech line fields t names e =
    let row = granted_option (row_of tech fields.model) (fault.Model line) _ t e in
    let sizes = granted_step (sizes_of tech line fields) _ t row.2 in
    let channel = granted_require (sizes.0.channel == 4) (fault.Length line sizes.0.channel) _ t sizes.2 in
    let wide = granted_require (nat_le (least_width sizes.0.fingers) sizes.0.width) (fault.Narrow line sizes.0.width) _ t channel.1 in
    let bulk = granted_require (bytes_eq fields.bulk (own_rail tech row.0)) (fault.Body line) _ t wide.1 in
    let rails = granted_require (rails_allowed tech row.0 fields) (fault.Rail line) _ t bulk.1 in
    let copies = granted_option sizes.0.copies (fault.Multiple line) _ t rails.1 in
    let fingers = granted_option sizes.0.fingers (fault.Multiple line) _ t copies.2 in
    made row.0 sizes.0 copies.0 fingers.0 fingers.2
  where
    made : (row : Row) (sizes : Sizes) (copies fingers : ℕ) → ◌≡◌ {A = Result Transistor SpiceFault} (Ok (transistor_as (record { copies = copies; row = row; width = sizes.width; fingers = fingers }) fields)) (Ok t) → AreNames (t.drain ∷ t.gate ∷ t.source ∷ [])
    made row sizes copies fingers is = subst (λ (u : Transistor). AreNames (u.drain ∷ u.gate ∷ u.source ∷ [])) (ok_is (transistor_as (record { copies = copies; row = row; width = sizes.width; fingers = fingers }) fields) t is) (three_names fields names)

names_of : (tech : Technology) (line : ℕ) (words : List (List ℕ)) (t : Transistor) → transistor_of tech line words ≡ Ok t → AreTransistorNames t
names_of tech line words t e =
    let fields = granted_step (fields_of line words) (transistor_with tech line) t e in
    names_with tech line fields.0 t (fields_names line words fields.0 fields.1) fields.2

-- ---- those of all transistors

names_pushed : (t : Transistor) (ts : List Transistor) → AreTransistorNames t → AreNames (named_nets ts) → AreNames (named_nets (t ∷ ts))
unfolding AreTransistorNames
names_pushed t ts first more = All-append IsName (t.drain ∷ t.gate ∷ t.source ∷ []) (named_nets ts) first more

line_names : (tech : Technology) (line : Line) (behind : Result (List Transistor) SpiceFault) (ts : List Transistor) → ((more : List Transistor) → behind ≡ Ok more → AreNames (named_nets more)) → with_line tech line behind ≡ Ok ts → AreNames (named_nets ts)
line_names tech line behind ts rest e = elim (cases_Bool (is_transistor line.words)) [
  | inl found ↦
      let first = granted_step (transistor_of tech line.number line.words) (λ transistor. behind >>= λ more. Ok (transistor ∷ more)) ts (sym (by_kind found) ∙ e) in
      let more = granted_step behind (λ more. Ok (first.0 ∷ more)) ts first.2 in
      subst (λ (us : List Transistor). AreNames (named_nets us)) (oks_are (first.0 ∷ more.0) ts more.2) (names_pushed first.0 more.0 (names_of tech line.number line.words first.0 first.1) (rest more.0 more.1))
  | inr other ↦ rest ts (granted_require (first_is (codes ".global") line.words) (fault.Element line.number) (λ _. behind) ts (sym (by_other other) ∙ e)).1
]
  where
    by_kind : is_transistor line.words ≡ true → with_line tech line behind ≡ (transistor_of tech line.number line.words >>= λ transistor. behind >>= λ more. Ok (transistor ∷ more))
    by_kind found = rw found refl

    by_other : is_transistor line.words ≡ false → with_line tech line behind ≡ (require (first_is (codes ".global") line.words) (fault.Element line.number) >>= λ _. behind)
    by_other other = rw other refl

used_names : (tech : Technology) (lines : List Line) (ts : List Transistor) → transistors_of tech lines ≡ Ok ts → AreNames (named_nets ts)
used_names tech [] ts e = subst (λ (us : List Transistor). AreNames (named_nets us)) (oks_are [] ts e) (All-nil IsName)
used_names tech (line ∷ lines) ts e = line_names tech line (transistors_of tech lines) ts (used_names tech lines) e

-- ---- those of the pins

listed_names : (line : Line) (pins : List (List ℕ)) → pins_of line ≡ Ok pins → AreNames pins
listed_names line pins e =
    let step = granted_require (list_all is_name (drop 2 line.words) && length (distinct (drop 2 line.words)) == length (drop 2 line.words)) (fault.Fields line.number) (λ _. Ok (drop 2 line.words)) pins e in
    let spelled = (and_parts (list_all is_name (drop 2 line.words)) (length (distinct (drop 2 line.words)) == length (drop 2 line.words)) step.0).0 in
    subst AreNames (words_are (drop 2 line.words) pins step.1) (AllPass-from_list_all is_name (drop 2 line.words) spelled)
  where
    words_are : (ps qs : List (List ℕ)) → ◌≡◌ {A = Result (List (List ℕ)) SpiceFault} (Ok ps) (Ok qs) → ps ≡ qs
    words_are ps qs e = cc

rail_names : (lines : List Line) (rail : List ℕ) (pins : List (List ℕ)) → IsName rail → AreNames pins → AreNames (with_rail lines rail pins)
rail_names lines rail pins spelled names = elim (cases_Bool (not (has_name pins rail) && is_global lines rail)) [
  | inl global ↦ rw global (All-append IsName pins (rail ∷ []) names (All-cons IsName rail [] spelled (All-nil IsName)))
  | inr stays ↦ rw stays names
]

pin_names : (tech : Technology) (lines : List Line) (pins : List (List ℕ)) → IsTechnology tech → AreNames pins → AreNames (with_rails tech lines pins)
pin_names tech lines pins technology names = rail_names lines tech.gnd (with_rail lines tech.vdd pins) technology.gnd.spelled (rail_names lines tech.vdd pins technology.vdd.spelled names)

-- ---- the whole

distinct_names : (names : List (List ℕ)) → AreNames names → AreNames (distinct names)
distinct_names [] all = all
distinct_names (name ∷ names) all =
    All-cons IsName name _ (All-head IsName name names all) (All-filter (λ other. not (bytes_eq other name)) IsName (distinct names) (distinct_names names (All-tail IsName name names all)))

net_names : (pins : List (List ℕ)) (ts : List Transistor) → AreNames pins → AreNames (named_nets ts) → AreNames (nets_of pins ts)
net_names pins ts listed used = distinct_names (pins ++ named_nets ts) (All-append IsName pins (named_nets ts) listed used)

made_names : (name : List ℕ) (tech : Technology) (lines : List Line) (pins : List (List ℕ)) (ts : List Transistor) (cell : Subckt) → AreNames (nets_of pins ts) → subckt_with name tech lines pins ts ≡ cell → AreNames cell.nets × (cell.name ≡ name)
made_names name tech lines pins ts cell names made = subst (λ (c : Subckt). AreNames c.nets × (c.name ≡ name)) made (names, refl)

read_names : (name : List ℕ) (tech : Technology) (lines : List Line) (cell : Subckt) → IsTechnology tech → subckt_in name tech lines ≡ Ok cell → AreNames cell.nets × (cell.name ≡ name)
read_names name tech lines cell technology e =
    let chosen = granted_step (chosen_in name lines) _ cell e in
    let listed = granted_step (pins_of chosen.0.head) _ cell chosen.2 in
    let inside = granted_step (transistors_of tech (without_comments chosen.0.inside)) (λ ts. subckt_of name tech chosen.0.inside (with_rails tech lines listed.0) ts) cell listed.2 in
    let whole = accepted name tech chosen.0.inside (with_rails tech lines listed.0) inside.0 cell inside.2 in
    let pins = pin_names tech lines listed.0 technology (listed_names chosen.0.head listed.0 listed.1) in
    let used = used_names tech (without_comments chosen.0.inside) inside.0 inside.1 in
    made_names name tech chosen.0.inside (with_rails tech lines listed.0) inside.0 cell (net_names (with_rails tech lines listed.0) inside.0 pins used) whole.1

pub named : (name : List ℕ) (tech : Technology) (lines : List Line) (cell : Subckt) → IsTechnology tech → subckt_in name tech lines ≡ Ok cell → AreNames cell.nets
named name tech lines cell technology e = (read_names name tech lines cell technology e).0

pub name_kept : (name : List ℕ) (tech : Technology) (lines : List Line) (cell : Subckt) → IsTechnology tech → subckt_in name tech lines ≡ Ok cell → cell.name ≡ name
name_kept name tech lines cell technology e = (read_names name tech lines cell technology e).1
