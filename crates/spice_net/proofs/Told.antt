-- No definition refuses for want of memory.
use Rattle.std.proofs.Common.{◌≡◌, ℕ, ◌==◌, ◌&&◌, not, nat_le, Bool, List, [], ◌∷◌, length, drop, codes, inl, inr, refl}
use Rattle.std.specs.Prelude.{Option, Some, None, Result, Ok, Err, position, bytes_eq}
use Rattle.std.specs.List.{list_all}
use Rattle.std.proofs.lemmas.Bool.{cases_Bool}
use Rattle.cell_num.specs.Names.{is_name}
use Rattle.cell_num.specs.Steps.{◌>>=◌, require, or_fault}
use Rattle.spice_text.specs.declared.logical.Line.{Line}
use Rattle.spice_text.specs.declared.logical.TextFault.{TextFault}
use Rattle.spice_text.specs.declared.logical.TextFault.TheVariants as text_fault
use Rattle.spice_text.specs.Logical.{split_of}
use Rattle.spice_text.specs.Numbers.{fixed_of}
use Rattle.spice_text.proofs.Groups.{never_split}
use Rattle.tech_file.specs.Technology.{Technology}
use Rattle.tech_file.proofs.Told.{never_step, never_require, never_option}
use Rattle.spice_net.specs.declared.fault.What.{What}
use Rattle.spice_net.specs.declared.fault.What.TheVariants as what
use Rattle.spice_net.specs.declared.fault.SpiceFault.{SpiceFault}
use Rattle.spice_net.specs.declared.fault.SpiceFault.TheVariants as fault
use Rattle.spice_net.specs.Chosen.{first_is, has_name, begins, ends, from_first, chosen_at, chosen_in, without_comments, of_text, lines_in}
use Rattle.spice_net.specs.Numbers.{units_of, least_width}
use Rattle.spice_net.specs.Parameters.{is_parameter, value_of}
use Rattle.spice_net.specs.Transistors.{Fields, Transistor, fields_of, sizes_of, row_of, own_rail, rails_allowed, transistor_with, transistor_of, is_transistor, with_line, transistors_of}
use Rattle.spice_net.specs.Nets.{distinct, nets_of, with_copies}
use Rattle.spice_net.specs.Subcircuit.{pins_of, with_rails, idle_pin, none_idle, at_most, few_enough, subckt_of, subckt_in, subcircuit}

abbrev Never : {A : Type 0} → Result A SpiceFault → Type 0
Never r = r ≡ Err fault.NoMemory → ⊥

-- a step that is refused by a fault of its own, and those behind it
required : {B : Type 0} (b : Bool) (g : SpiceFault) (f : Unit {0} → Result B SpiceFault) → (g ≡ fault.NoMemory → ⊥) → ((u : Unit {0}) → Never (f u)) → Never (require b g >>= f)
required b g f other next = never_step fault.NoMemory (require b g) f (never_require fault.NoMemory b g other) next

there : {A B : Type 0} (o : Option A) (g : SpiceFault) (f : A → Result B SpiceFault) → (g ≡ fault.NoMemory → ⊥) → ((a : A) → Never (f a)) → Never (or_fault o g >>= f)
there o g f other next = never_step fault.NoMemory (or_fault o g) f (never_option fault.NoMemory o g other) next

-- ---- the lines

never_text : (r : Result (List Line) TextFault) → (r ≡ Err text_fault.NoMemory → ⊥) → Never (of_text r)
never_text (Ok lines) first h = cc
never_text (Err (text_fault.NotAscii line)) first h = cc
never_text (Err text_fault.NoMemory) first h = first refl

never_chosen : (lines : List Line) → Never (chosen_at lines)
never_chosen [] h = cc
never_chosen (head ∷ behind) h = there (position ends behind) fault.Unended _ (λ e. cc) (λ end e. cc) h

-- ---- a transistor

never_fields : (line : ℕ) (words : List (List ℕ)) → Never (fields_of line words)
never_fields line [] h = cc
never_fields line (a ∷ []) h = cc
never_fields line (a ∷ b ∷ []) h = cc
never_fields line (a ∷ b ∷ c ∷ []) h = cc
never_fields line (a ∷ b ∷ c ∷ d ∷ []) h = cc
never_fields line (a ∷ b ∷ c ∷ d ∷ e ∷ []) h = cc
never_fields line (a ∷ b ∷ c ∷ d ∷ e ∷ f ∷ ps) h =
    required (list_all is_name (a ∷ b ∷ c ∷ d ∷ e ∷ f ∷ [])) (fault.Fields line) _ (λ q. cc) (λ u.
    required (list_all is_parameter ps) (fault.Fields line) _ (λ q. cc) (λ v.
    there (value_of (codes "w=") ps) (fault.Fields line) _ (λ q. cc) (λ w.
    there (value_of (codes "l=") ps) (fault.Fields line) _ (λ q. cc) (λ l q. cc)))) h

never_sizes : (tech : Technology) (line : ℕ) (f : Fields) → Never (sizes_of tech line f)
never_sizes tech line f =
    there (units_of tech f.width) (fault.Number line) _ (λ q. cc) (λ width.
    there (units_of tech f.channel) (fault.Number line) _ (λ q. cc) (λ channel.
    there (fixed_of f.m) (fault.Number line) _ (λ q. cc) (λ m.
    there (fixed_of f.nf) (fault.Number line) _ (λ q. cc) (λ nf q. cc))))

never_with : (tech : Technology) (line : ℕ) (f : Fields) → Never (transistor_with tech line f)
never_with tech line f =
    there (row_of tech f.model) (fault.Model line) _ (λ q. cc) (λ row.
    never_step fault.NoMemory (sizes_of tech line f) _ (never_sizes tech line f) (λ sizes.
    required (sizes.channel == 4) (fault.Length line sizes.channel) _ (λ q. cc) (λ u1.
    required (nat_le (least_width sizes.fingers) sizes.width) (fault.Narrow line sizes.width) _ (λ q. cc) (λ u2.
    required (bytes_eq f.bulk (own_rail tech row)) (fault.Body line) _ (λ q. cc) (λ u3.
    required (rails_allowed tech row f) (fault.Rail line) _ (λ q. cc) (λ u4.
    there sizes.copies (fault.Multiple line) _ (λ q. cc) (λ copies.
    there sizes.fingers (fault.Multiple line) _ (λ q. cc) (λ fingers q. cc))))))))

never_line : (tech : Technology) (line : Line) (behind : Result (List Transistor) SpiceFault) → Never behind → Never (with_line tech line behind)
never_line tech line behind rest h =
    elim (cases_Bool (is_transistor line.words)) [
      | inl is ↦
          let e : (transistor_of tech line.number line.words >>= (λ transistor. behind >>= λ more. Ok (transistor ∷ more))) ≡ Err fault.NoMemory = rw is at h in
          never_step fault.NoMemory (transistor_of tech line.number line.words) (λ transistor. behind >>= λ more. Ok (transistor ∷ more))
          (never_step fault.NoMemory (fields_of line.number line.words) (transistor_with tech line.number) (never_fields line.number line.words) (never_with tech line.number))
          (λ t. never_step fault.NoMemory behind (λ more. Ok (t ∷ more)) rest (λ more q. cc)) e
      | inr other ↦
          let e : (require (first_is (codes ".global") line.words) (fault.Element line.number) >>= λ _. behind) ≡ Err fault.NoMemory = rw other at h in
          required (first_is (codes ".global") line.words) (fault.Element line.number) (λ _. behind) (λ q. cc) (λ u. rest) e
    ]

never_lines : (tech : Technology) (lines : List Line) → Never (transistors_of tech lines)
never_lines tech [] h = cc
never_lines tech (line ∷ lines) h = never_line tech line (transistors_of tech lines) (never_lines tech lines) h

-- ---- the whole

never_idle : (pin : Option (List ℕ)) → Never (none_idle pin)
never_idle None h = cc
never_idle (Some pin) h = cc

never_most : (most : ℕ) (w : What) (count : ℕ) → Never (at_most most w count)
never_most most w count = never_require fault.NoMemory (nat_le count most) (fault.TooMany w count) (λ q. cc)

never_few : (pins : List (List ℕ)) (ts : List Transistor) → Never (few_enough pins ts)
never_few pins ts =
    never_step fault.NoMemory (at_most 64 what.Pins (length pins)) _ (never_most 64 what.Pins (length pins)) (λ u.
    never_step fault.NoMemory (at_most 128 what.Devices (length (with_copies ts))) _ (never_most 128 what.Devices (length (with_copies ts))) (λ v. never_most 256 what.Nets (length (nets_of pins ts))))

never_whole : (name : List ℕ) (tech : Technology) (lines : List Line) (pins : List (List ℕ)) (ts : List Transistor) → Never (subckt_of name tech lines pins ts)
never_whole name tech lines pins ts =
    required (has_name pins tech.vdd && has_name pins tech.gnd) fault.NoRail _ (λ q. cc) (λ u1.
    never_step fault.NoMemory (none_idle (idle_pin tech pins ts)) _ (never_idle (idle_pin tech pins ts)) (λ u2.
    required (not (length ts == 0)) fault.Empty _ (λ q. cc) (λ u3.
    never_step fault.NoMemory (few_enough pins ts) _ (never_few pins ts) (λ u4 q. cc))))

pub never_in : (name : List ℕ) (tech : Technology) (lines : List Line) → Never (subckt_in name tech lines)
never_in name tech lines =
    never_step fault.NoMemory (chosen_in name lines) _ (never_chosen (from_first (begins name) lines)) (λ chosen.
    never_step fault.NoMemory (pins_of chosen.head) _ (required (list_all is_name (drop 2 chosen.head.words) && length (distinct (drop 2 chosen.head.words)) == length (drop 2 chosen.head.words)) (fault.Fields chosen.head.number) _ (λ q. cc) (λ u q. cc)) (λ pins.
    never_step fault.NoMemory (transistors_of tech (without_comments chosen.inside)) _ (never_lines tech (without_comments chosen.inside)) (λ ts. never_whole name tech chosen.inside (with_rails tech lines pins) ts)))

pub never_lines_in : (bytes : List ℕ) → Never (lines_in bytes)
never_lines_in bytes = never_text (split_of bytes) (never_split bytes)

pub never_subcircuit : (bytes name : List ℕ) (tech : Technology) → Never (subcircuit bytes name tech)
never_subcircuit bytes name tech =
    never_step fault.NoMemory (lines_in bytes) (subckt_in name tech) (never_lines_in bytes) (never_in name tech)
