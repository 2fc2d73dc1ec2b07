-- A record that is spelled is the record that stands there.
use Rattle.std.proofs.Common.{ℕ, ◌≡◌, ◌+◌, ◌-◌, ◌*◌, ◌/◌, ◌%◌, ◌<◌, ◌==◌, false, ltb, List, [], ◌∷◌, ◌++◌, length, get_or, drop, slice_range, Ok, refl, sym, ap, ◌∙◌, arith, append_assoc, length-append}
use Rattle.std.specs.List.{AllByRecursion}
use Rattle.std.proofs.lemmas.Bool.{le-ltb, ne_eqb}
use Rattle.std.proofs.lemmas.List.{get_or-append-add}
use Rattle.std.proofs.Math.Seq.{get_or-append_seam, drop-append-add, take-append_seam}
use Rattle.gds_record.specs.Records.{Raw, IsRaw, spelled, spelling, item, placed, ends, Item, Stream, size_at, record_at, records_from}
use Rattle.gds_record.proofs.Walks.{from_step}

-- what stands at a place where four bytes begin
record Heads (before rest : List ℕ) (a b c d : ℕ) : Type 0 where
  pub first : get_or (before ++ a ∷ b ∷ c ∷ d ∷ rest) (length before) 0 ≡ a
  pub second : get_or (before ++ a ∷ b ∷ c ∷ d ∷ rest) (length before + 1) 0 ≡ b
  pub third : get_or (before ++ a ∷ b ∷ c ∷ d ∷ rest) (length before + 2) 0 ≡ c
  pub fourth : get_or (before ++ a ∷ b ∷ c ∷ d ∷ rest) (length before + 3) 0 ≡ d
  pub behind : drop (length before + 4) (before ++ a ∷ b ∷ c ∷ d ∷ rest) ≡ rest
  pub size : length (before ++ a ∷ b ∷ c ∷ d ∷ rest) ≡ length before + (length rest + 4)

heads : (before rest : List ℕ) (a b c d : ℕ) → Heads before rest a b c d
heads before rest a b c d = record {
  first = get_or-append_seam before a (b ∷ c ∷ d ∷ rest) 0;
  second = get_or-append-add before (a ∷ b ∷ c ∷ d ∷ rest) 1 0;
  third = get_or-append-add before (a ∷ b ∷ c ∷ d ∷ rest) 2 0;
  fourth = get_or-append-add before (a ∷ b ∷ c ∷ d ∷ rest) 3 0;
  behind = drop-append-add before (a ∷ b ∷ c ∷ d ∷ rest) 4;
  size = omega (arith, length-append before (a ∷ b ∷ c ∷ d ∷ rest));
}

both : (n : ℕ) → n < 65536 → 256 * (n / 256 % 256) + n % 256 ≡ n
both n lt = omega arith

pub record_spelled : (before after : List ℕ) (r : Raw) → IsRaw r → record_at (before ++ (spelled r ++ after)) (length before) ≡ Ok (record { at = length before; code = r.code; form = r.form; next = length before + (length r.content + 4) })
unfolding spelled
record_spelled before after r is =
    let n : ℕ = length r.content + 4 in
    let h = heads before (r.content ++ after) ((length r.content + 4) / 256 % 256) ((length r.content + 4) % 256) r.code r.form in
    let size : size_at (before ++ (spelled r ++ after)) (length before) ≡ length r.content + 4 = rw (h.first, h.second) (both (length r.content + 4) is.short) in
    let room : ltb (length (before ++ (spelled r ++ after))) (length before + 4) ≡ false = le-ltb _ _ (omega (arith, h.size)) in
    let whole : ltb (length (before ++ (spelled r ++ after))) (length before + (length r.content + 4)) ≡ false = le-ltb _ _ (omega (arith, h.size, length-append r.content after)) in
    let long : ltb (length r.content + 4) 4 ≡ false = le-ltb _ _ (omega arith) in
    let even : ((length r.content + 4) % 2 == 1) ≡ false = ne_eqb _ _ (λ e. omega (arith, e, is.even)) in
    rw (size, room, whole, long, even, h.third, h.fourth) refl

content_spelled : (before after : List ℕ) (r : Raw) → slice_range (before ++ (spelled r ++ after)) (length before + 4) (length before + (length r.content + 4)) ≡ r.content
unfolding spelled
content_spelled before after r =
    let h = heads before (r.content ++ after) ((length r.content + 4) / 256 % 256) ((length r.content + 4) % 256) r.code r.form in
    let size : length before + (length r.content + 4) - (length before + 4) ≡ length r.content = omega arith in
    rw (size, h.behind) (take-append_seam r.content after)

-- a stream with a record in front
abbrev pub fronted : Item → Stream → Stream
fronted i s = record { items = i ∷ s.items; fault = s.fault }

pub from_spelled : (before after : List ℕ) (r : Raw) → IsRaw r → records_from (before ++ (spelled r ++ after)) (length before) ≡ fronted (item (length before) r) (records_from (before ++ (spelled r ++ after)) (length before + (length r.content + 4)))
from_spelled before after r is =
    from_step (before ++ (spelled r ++ after)) (length before) ∙ (rw (record_spelled before after r is, content_spelled before after r) refl)

abbrev pub join : List Item → Stream → Stream
join [] s = s
join (i ∷ is) s = fronted i (join is s)

one : (bytes before after : List ℕ) (r : Raw) (at : ℕ) → IsRaw r → at ≡ length before → bytes ≡ before ++ (spelled r ++ after) → records_from bytes at ≡ fronted (item at r) (records_from bytes (at + (length r.content + 4)))
one bytes before after r at is place spells = rw (place, spells) (from_spelled before after r is)

spelled_length : (r : Raw) → length (spelled r) ≡ length r.content + 4
unfolding spelled
spelled_length r = omega arith

pub stream_spelled : (bytes before after : List ℕ) (rs : List Raw) (at : ℕ) → AllByRecursion IsRaw rs → at ≡ length before → bytes ≡ before ++ (spelling rs ++ after) → records_from bytes at ≡ join (placed at rs) (records_from bytes (ends at rs))
stream_spelled bytes before after [] at is place spells = refl
stream_spelled bytes before after (r ∷ rs) at is place spells =
    let first : bytes ≡ before ++ (spelled r ++ (spelling rs ++ after)) = spells ∙ ap (λ (t : List ℕ). before ++ t) (append_assoc (spelled r) (spelling rs) after) in
    let second : bytes ≡ (before ++ spelled r) ++ (spelling rs ++ after) = first ∙ sym (append_assoc before (spelled r) (spelling rs ++ after)) in
    let next : at + (length r.content + 4) ≡ length (before ++ spelled r) = omega (arith, place, length-append before (spelled r), spelled_length r) in
    one bytes before (spelling rs ++ after) r at is.0 place first ∙ ap (λ (s : Stream). fronted (item at r) s) (stream_spelled bytes (before ++ spelled r) after rs (at + (length r.content + 4)) is.1 next second)

pub ends_at : (at : ℕ) (rs : List Raw) → ends at rs ≡ at + length (spelling rs)
ends_at at [] = omega arith
ends_at at (r ∷ rs) = omega (arith, ends_at (at + (length r.content + 4)) rs, length-append (spelled r) (spelling rs), spelled_length r)
