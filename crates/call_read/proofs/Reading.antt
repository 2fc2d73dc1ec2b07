-- What readings come to.
use Rattle.std.proofs.Common.{ℕ, ◌≡◌, ◌⊎◌, List, Some, Result, Ok, Err, inl, inr, refl, sym, ap, ◌∙◌, subst}
use Rattle.cell_io.specs.Desk.{Files}
use Rattle.call_read.specs.declared.refusal.Refusal.{Refusal}
use Rattle.call_read.specs.declared.refusal.Refusal.TheVariants.{Unread}
use Rattle.call_read.specs.Reading.{Reading, Ends, Reads, ◌>>=◌, behind, called, Comes}
use Rattle.call_read.specs.Sources.{Source, MayRead, file_name, held}

-- ---- one reading behind another

pub came_on : {A B : Type 0} (May : Source → Result (List ℕ) Refusal → Type 0) (first : Reading A) (next : A → Reading B) (x : A) (ended : Result B Refusal) → Comes May first (Ok x) → Comes May (next x) ended → Comes May (first >>= next) ended
came_on May (Ends (Ok y)) next x ended came rest =
    let same : x ≡ y = cc in
    subst (λ z. Comes May (next z) ended) same rest
came_on May (Ends (Err e)) next x ended came rest = cc
came_on May (Reads source go) next x ended (Ok bytes, may, came) rest = (Ok bytes, may, came_on May (go bytes) next x ended came rest)
came_on May (Reads source go) next x ended (Err e, may, is) rest = cc

pub came_refused : {A B : Type 0} (May : Source → Result (List ℕ) Refusal → Type 0) (first : Reading A) (next : A → Reading B) (e : Refusal) → Comes May first (Err e) → Comes May (first >>= next) (Err e)
came_refused May (Ends (Ok y)) next e came = cc
came_refused May (Ends (Err f)) next e came =
    let same : e ≡ f = cc in
    ap (λ (x : Refusal). Err x) same
came_refused May (Reads source go) next e (Ok bytes, may, came) = (Ok bytes, may, came_refused May (go bytes) next e came)
came_refused May (Reads source go) next e (Err f, may, is) =
    let same : e ≡ f = cc in
    (Err f, may, ap (λ (x : Refusal). Err x) same)

pub came_wider : {A : Type 0} (May May' : Source → Result (List ℕ) Refusal → Type 0) (reading : Reading A) (ended : Result A Refusal) → ((source : Source) (read : Result (List ℕ) Refusal) → May source read → May' source read) → Comes May reading ended → Comes May' reading ended
came_wider May May' (Ends told) ended wider is = is
came_wider May May' (Reads source go) ended wider (Ok bytes, may, came) = (Ok bytes, wider source (Ok bytes) may, came_wider May May' (go bytes) ended wider came)
came_wider May May' (Reads source go) ended wider (Err e, may, is) = (Err e, wider source (Err e) may, is)

-- ---- over files that are told

abbrev pub IsUnread : {A : Type 0} → Result A Refusal → Type 0
IsUnread ended = (name : List ℕ) × (ended ≡ Err (Unread name))

-- what the files call for, or a reading failed
pub came_told : {A : Type 0} (files : Files) (failed : Type 0) (reading : Reading A) (ended : Result A Refusal) → Comes (MayRead (Some files) failed) reading ended → (ended ≡ called files reading) ⊎ (failed × IsUnread ended)
came_told files failed (Ends told) ended is = inl is
came_told files failed (Reads source go) ended (Ok bytes, inl is, came) = elim (came_told files failed (go bytes) ended came) [
  | inl same ↦ inl (same ∙ ap (λ read. behind read (λ bytes. called files (go bytes))) is)
  | inr unread ↦ inr unread
]
came_told files failed (Reads source go) ended (Err e, inl is, told) = inl (told ∙ ap (λ read. behind read (λ bytes. called files (go bytes))) is)
came_told files failed (Reads source go) ended (Ok bytes, inr (faulty, is), came) = cc
came_told files failed (Reads source go) ended (Err e, inr (faulty, is), told) =
    let same : e ≡ Unread (file_name source) = cc in
    inr (faulty, (file_name source, told ∙ ap (λ (x : Refusal). Err x) same))

comes_so : {A : Type 0} (files : Files) (source : Source) (go : List ℕ → Reading A) (read : Result (List ℕ) Refusal) → read ≡ held files source → ((bytes : List ℕ) → Comes (λ source read. read ≡ held files source) (go bytes) (called files (go bytes))) → Comes (λ source read. read ≡ held files source) (Reads source go) (behind read (λ bytes. called files (go bytes)))
comes_so files source go (Ok bytes) is each = (Ok bytes, is, each bytes)
comes_so files source go (Err e) is each = (Err e, is, refl)

pub called_comes : {A : Type 0} (files : Files) (reading : Reading A) → Comes (λ source read. read ≡ held files source) reading (called files reading)
called_comes files (Ends told) = refl
called_comes files (Reads source go) = comes_so files source go (held files source) refl (λ bytes. called_comes files (go bytes))

-- ---- what a reading reads, and what it ends with by itself

abbrev pub Keeps : {A : Type 0} → (Source → Type 0) → (Result A Refusal → Type 0) → Reading A → Type 0
Keeps May Is (Ends told) = Is told
Keeps May Is (Reads source go) = May source × ((bytes : List ℕ) → Keeps May Is (go bytes))

pub keeps_on : {A B : Type 0} (May : Source → Type 0) (Is : Result A Refusal → Type 0) (Is' : Result B Refusal → Type 0) (first : Reading A) (next : A → Reading B) → Keeps May Is first → ((x : A) → Is (Ok x) → Keeps May Is' (next x)) → ((e : Refusal) → Is (Err e) → Is' (Err e)) → Keeps May Is' (first >>= next)
keeps_on May Is Is' (Ends (Ok x)) next kept on off = on x kept
keeps_on May Is Is' (Ends (Err e)) next kept on off = off e kept
keeps_on May Is Is' (Reads source go) next (there, rest) on off = (there, λ bytes. keeps_on May Is Is' (go bytes) next (rest bytes) on off)

-- it ended by itself, or by a file that was refused
pub came_kept : {A : Type 0} (R : Source → Result (List ℕ) Refusal → Type 0) (May : Source → Type 0) (Is : Result A Refusal → Type 0) (reading : Reading A) (ended : Result A Refusal) → Keeps May Is reading → Comes R reading ended → Is ended ⊎ ((source : Source) × May source × (e : Refusal) × R source (Err e) × (ended ≡ Err e))
came_kept R May Is (Ends told) ended kept is = inl (subst Is (sym is) kept)
came_kept R May Is (Reads source go) ended (there, rest) (Ok bytes, may, came) = came_kept R May Is (go bytes) ended (rest bytes) came
came_kept R May Is (Reads source go) ended (there, rest) (Err e, may, is) = inr (source, there, e, may, is)
