-- The line of what is left out, written and read.
use Rattle.std.specs.Prelude.{ℕ, ◌≡◌, ◌<◌, ◌≤◌, IsTrue, List, [], ◌∷◌, ◌++◌, Some, All, length, map, codes}
use Rattle.std.proofs.Common.{refl, ap, subst, arith, ◌∙◌, inl, inr}
use Rattle.std.specs.List.{join_with_byte}
use Rattle.std.proofs.lemmas.List.{append_assoc, length-map}
use Rattle.std.proofs.lemmas.List.Elements.{All-cons, All-nil}
use Rattle.std.proofs.lemmas.Option.{none-some, same_Some}
use Rattle.cell_num.specs.declared.net.NetNo.{NetNo}
use Rattle.cell_num.specs.declared.finger.Row.{Row}
use Rattle.cell_num.specs.declared.finger.Row.TheVariants.{P, N}
use Rattle.log_lines.specs.Words.{is_word, parts_at}
use Rattle.log_lines.proofs.Numbers.{chosen, same_words}
use Rattle.log_lines.proofs.Parts.{some_part}
use Rattle.log_lines.proofs.Splits.{IsAbove, Lacks, fed, split_joined}
use Rattle.bound_log.proofs.Again.{by_test}
use Rattle.bound_log.proofs.Spelled.{bound, cons_same, is_provided}
use Rattle.trail_log.specs.Fits.{NetFits}
use Rattle.trail_log.specs.Listed.{each_in, net_in}
use Rattle.trail_log.specs.Order.{increases, net_rank}
use Rattle.trail_log.specs.Spelling.{list_text, net_text, nets_text}
use Rattle.trail_log.proofs.Items.{all_of, decimal_lacks, each_again, each_only, joined_parts, list_above, net_above, net_again, net_only}
use Rattle.fewer_fingers.specs.declared.fewer.LeftOut.{LeftOut}
use Rattle.fewer_log.specs.Fits.{OutFits}
use Rattle.fewer_log.specs.Line.{gates_in, out_in, row_in}
use Rattle.fewer_log.specs.Text.{out_line, row_text}

-- ---- the row

row_only : (word : List ℕ) (row : Row) → row_in word ≡ Some row → word ≡ row_text row
row_only word row h =
    elim (chosen (is_word word (codes "P")) _ _ _ h) [
      | inl p ↦ same_words word (codes "P") p.0 ∙ ap row_text (same_Some P row p.1)
      | inr other ↦ elim (chosen (is_word word (codes "N")) _ _ _ other.1) [
        | inl n ↦ same_words word (codes "N") n.0 ∙ ap row_text (same_Some N row n.1)
        | inr none ↦ absurd (none-some row none.1)
      ]
    ]

row_again : (row : Row) → row_in (row_text row) ≡ Some row
row_again P = refl
row_again N = refl

row_above : (row : Row) → IsAbove 32 (row_text row)
row_above P = by_test 32 (codes "P") refl
row_above N = by_test 32 (codes "N") refl

-- ---- the gates

listed : (words : List (List ℕ)) → 0 < length words → join_with_byte 44 words ≡ list_text 44 words
listed [] some = absurd (omega (arith, some))
listed (word ∷ words) some = refl

gates_only : (nets : ℕ) (word : List ℕ) (gates : List NetNo) → gates_in nets word ≡ Some gates → (word ≡ nets_text gates) × OutFits nets (record { row = P; gates = gates })
gates_only nets word gates h =
    let found = bound (each_in (net_in nets) (parts_at 44 word)) _ gates h in
    let rising = is_provided (increases net_rank found.0) _ gates found.2 in
    let read = each_only (net_in nets) net_text (NetFits nets) (parts_at 44 word) found.0 (net_only nets) found.1 in
    let some : 0 < length (map net_text found.0) = subst (λ (ws : List (List ℕ)). 0 < length ws) read.0 (some_part 44 word) in
    subst (λ (gs : List NetNo). (word ≡ nets_text gs) × OutFits nets (record { row = P; gates = gs })) (same_Some found.0 gates rising.1) (
      joined_parts 44 word (map net_text found.0) read.0 ∙ listed (map net_text found.0) some,
      record { some = omega (arith, some, length-map found.0 net_text); gates = read.1; increase = rising.0 },
    )

gates_again : (nets : ℕ) (gates : List NetNo) → nets ≤ 256 → 1 ≤ length gates → All (NetFits nets) gates → IsTrue (increases net_rank gates) → gates_in nets (nets_text gates) ≡ Some gates
gates_again nets [] few some fits rising = absurd (omega (arith, some))
gates_again nets (gate ∷ gates) few some fits rising =
    rw (
      split_joined 44 (net_text gate) (map net_text gates) (decimal_lacks 44 gate.0 (omega arith)) (all_of net_text (Lacks 44) gates (λ net. decimal_lacks 44 net.0 (omega arith))),
      each_again (net_in nets) net_text (NetFits nets) (gate ∷ gates) (net_again nets few) fits,
      rising,
    )
    refl

-- ---- the line

abbrev pub out_words : LeftOut → List (List ℕ)
out_words out = codes "without" ∷ row_text out.row ∷ nets_text out.gates ∷ []

pub out_only : (nets : ℕ) (words : List (List ℕ)) (out : LeftOut) → out_in nets words ≡ Some out → (words ≡ out_words out) × OutFits nets out
out_only nets [] out h = absurd (none-some out h)
out_only nets (a ∷ []) out h = absurd (none-some out h)
out_only nets (a ∷ b ∷ []) out h = absurd (none-some out h)
out_only nets (a ∷ b ∷ c ∷ d ∷ rest) out h = absurd (none-some out h)
out_only nets (a ∷ b ∷ c ∷ []) out h =
    let front = is_provided (is_word a (codes "without")) _ out h in
    let row = bound (row_in b) _ out front.1 in
    let gates = bound (gates_in nets c) _ out row.2 in
    let read = gates_only nets c gates.0 gates.1 in
    subst (λ (o : LeftOut). ((a ∷ b ∷ c ∷ []) ≡ codes "without" ∷ row_text o.row ∷ nets_text o.gates ∷ []) × OutFits nets o) (same_Some (record { row = row.0; gates = gates.0 }) out gates.2) (
      cons_same _ _ _ _ (same_words a (codes "without") front.0) (cons_same _ _ _ _ (row_only b row.0 row.1) (cons_same _ _ _ _ read.0 refl)),
      record { some = read.1.some; gates = read.1.gates; increase = read.1.increase },
    )

pub out_again : (nets : ℕ) (out : LeftOut) → nets ≤ 256 → OutFits nets out → out_in nets (out_words out) ≡ Some out
out_again nets out few h = rw (row_again out.row, gates_again nets out.gates few h.some h.gates h.increase) refl

pub out_above : (out : LeftOut) → All (IsAbove 32) (out_words out)
out_above out =
    All-cons (IsAbove 32) (codes "without") (row_text out.row ∷ nets_text out.gates ∷ []) (by_test 32 (codes "without") refl)
    (All-cons (IsAbove 32) (row_text out.row) (nets_text out.gates ∷ []) (row_above out.row)
    (All-cons (IsAbove 32) (nets_text out.gates) [] (list_above net_text out.gates net_above) (All-nil (IsAbove 32))))

pub out_joined : (out : LeftOut) → fed (join_with_byte 32 (out_words out)) ≡ out_line out
out_joined out = apart (row_text out.row) (nets_text out.gates)
  where
    apart : (row gates : List ℕ) → fed (codes "without " ++ (row ++ (32 ∷ gates))) ≡ codes "without " ++ row ++ codes " " ++ gates ++ codes "\n"
    apart row gates = simp append_assoc

-- the line behind a text
pub out_behind : (text : List ℕ) (out : LeftOut) → ((((text ++ codes "without ") ++ row_text out.row) ++ codes " ") ++ nets_text out.gates) ++ codes "\n" ≡ text ++ out_line out
out_behind text out = apart text (row_text out.row) (nets_text out.gates)
  where
    apart : (front row gates : List ℕ) → ((((front ++ codes "without ") ++ row) ++ codes " ") ++ gates) ++ codes "\n" ≡ front ++ (codes "without " ++ row ++ codes " " ++ gates ++ codes "\n")
    apart front row gates = simp append_assoc
