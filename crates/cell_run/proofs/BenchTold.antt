-- What the top call owes of `bench`, from the end that it came to and how this was told.
use Rattle.std.proofs.Common.{ℕ, ◌≡◌, ◌⊎◌, Option, Some, Result, inl, inr, sym, ap, ◌∙◌, subst}
use Rattle.cell_io.specs.Desk.{View, Both, Rose}
use Rattle.call_end.specs.declared.end.End.{End}
use Rattle.call_read.specs.declared.refusal.Refusal.{Refusal}
use Rattle.call_read.specs.declared.refusal.Refusal.TheVariants.{NoMemory}
use Rattle.call_end.specs.declared.status.Status.{Status}
use Rattle.call_end.specs.declared.status.Status.TheVariants as status
use Rattle.bench_command.specs.Report.{BenchesTo}
use Rattle.cell_run.specs.Bench.{IsBench, IsBenchTold, WhereBenchEnds}
use Rattle.cell_run.specs.Calm.{IsDoneOrShort}
use Rattle.call_end.specs.Deliver.{Says, TellsWhole}
use Rattle.call_work.specs.Ends.{EndsTo, MayEnd, refused}
use Rattle.call_work.specs.Commands.{Material}
use Rattle.call_words.specs.Words.{Form, Bench}
use Rattle.cell_run.proofs.Telling.{Answers}

-- it came to the counts, or memory ran out
came : (old new : View) (number : ℕ) (end : End) → MayEnd old new (Some (Bench number)) end → BenchesTo number end ⊎ (end ≡ refused NoMemory)
came old new number end (got, inl is, ends) = inl (subst (λ (r : Result Material Refusal). EndsTo r end) is ends)
came old new number end (got, inr short, ends) = inr (subst (λ (r : Result Material Refusal). EndsTo r end) short ends)

told_so : (old new : View) (number : ℕ) (end : End) (answer : Status) → BenchesTo number end → TellsWhole end answer old new → IsBenchTold number old new
told_so old new number end answer (tally, counted, is) whole =
    record { tally = tally; counted = counted; says = subst (λ (e : End). Both (Says e.report) old.said new.said) is whole.2 }

short_done : (end : End) (answer : Status) → end ≡ refused NoMemory → answer ≡ end.status → answer ≡ status.Done → ⊥
short_done end answer is same done =
    let clash : status.Done ≡ status.NoMemory = sym done ∙ same ∙ ap (λ (e : End). e.status) is in
    cc

failed_done : (answer : Status) → answer ≡ status.WriteFault → answer ≡ status.Done → ⊥
failed_done answer is done = cc

memory_done : (answer : Status) → answer ≡ status.NoMemory → answer ≡ status.Done → ⊥
memory_done answer is done = cc

done_so : (old new : View) (number : ℕ) (answer : Status) → Answers old new (Some (Bench number)) answer → answer ≡ status.Done → IsBenchTold number old new
done_so old new number answer (end, may, inr (inl (failed, rose), some)) done = absurd (failed_done answer failed done)
done_so old new number answer (end, may, inr (inr (short, rose), some)) done = absurd (memory_done answer short done)
done_so old new number answer (end, may, inl whole) done = elim (came old new number end may) [
  | inl benches ↦ told_so old new number end answer benches whole
  | inr short ↦ absurd (short_done end answer short whole.0 done)
]

pub benched_told : (old new : View) (form : Option Form) (answer : Status) → Answers old new form answer → WhereBenchEnds form answer (λ number. IsBenchTold number old new)
benched_told old new form answer told = λ number is done. done_so old new number answer (subst (λ (f : Option Form). Answers old new f answer) is told) done

-- it is done, or writing failed, or memory ran out
ends_so : (old new : View) (number : ℕ) (answer : Status) → Answers old new (Some (Bench number)) answer → Rose old.write_faults new.write_faults ⊎ IsDoneOrShort answer
ends_so old new number answer (end, may, inr (inl (failed, rose), some)) = inl rose
ends_so old new number answer (end, may, inr (inr (short, rose), some)) = inr (inr short)
ends_so old new number answer (end, may, inl whole) = elim (came old new number end may) [
  | inl (tally, counted, is) ↦ inr (inl (whole.0 ∙ ap (λ (e : End). e.status) is))
  | inr short ↦ inr (inr (whole.0 ∙ ap (λ (e : End). e.status) short))
]

pub benches_told : (old new : View) (form : Option Form) (answer : Status) → Answers old new form answer → IsBench form → Rose old.write_faults new.write_faults ⊎ IsDoneOrShort answer
benches_told old new form answer told (number, is) = ends_so old new number answer (subst (λ (f : Option Form). Answers old new f answer) is told)
