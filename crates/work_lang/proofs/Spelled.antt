-- What is read is spelled, and what is spelled is read.
use Rattle.std.proofs.Common.{◌≡◌, ℕ, ◌+◌, ◌≤◌, ltb, List, length, Result, Ok, Err, refl, sym, subst, ◌∙◌, inl, inr}
use Rattle.std.specs.Prelude.{IfOk}
use Rattle.std.proofs.lemmas.Bool.{ltb-false, le-ltb}
use Rattle.line_words.specs.Text.{lines_of}
use Rattle.place_core.specs.declared.name.Declared.{Declared}
use Rattle.work_lang.specs.declared.fault.WorkFault.{WorkFault}
use Rattle.work_lang.specs.Limits.{most_bytes}
use Rattle.work_lang.specs.Workload.{Workload}
use Rattle.work_lang.specs.Reading.{Fault, start, run, reading_of, Reads}
use Rattle.work_lang.specs.Spelling.{IsSaid, Pairs, items_of, Spells}
use Rattle.work_lang.specs.Laws.{ReadingIsSpelling, SpellsOne, FaultSpellsNone, CanonicalIsRead, HasOneReading, EachTextHasOneReading}
use Rattle.work_lang.specs.Canonical.{canonical_text}
use Rattle.work_lang.proofs.CanonicalTexts.{canonical_spells}
use Rattle.work_lang.proofs.Steps.{chosen}
use Rattle.work_lang.proofs.Keeping.{start_kept}
use Rattle.work_lang.proofs.Walks.{said_in, RunTakes, run_takes, run_again}
use Rattle.work_lang.proofs.Back.{state_of, work_walk, work_ended}
use Rattle.work_lang.proofs.Found.{walk_kept, walk_pairs, end_found}

abbrev read : Workload → Result Workload Fault
read w = Ok w

fault_ok : {x : Fault} {w : Workload} → Err x ≡ Ok w → ⊥
fault_ok e = cc

spells_run : (text : List ℕ) (w : Workload) → length text ≤ most_bytes → RunTakes start (lines_of text) w → Spells text w
spells_run text w short r =
    let k = walk_kept start r.items (said_in (lines_of text)) r.last start_kept r.walk in
    let f = end_found r.last.awaits r.last r.count w refl k.0 r.ended in
    let items-is : r.items ≡ items_of w = sym k.1 ∙ f.items in
    let pairs = walk_pairs start r.items (said_in (lines_of text)) r.last r.walk in
    record {
      short = short;
      printable = r.printable;
      work = f.work;
      lines = subst (λ is. Pairs (IsSaid w.objects) is (said_in (lines_of text))) items-is (subst (λ (objects : List Declared). Pairs (IsSaid objects) r.items (said_in (lines_of text))) f.objects pairs);
    }

pub reading_found : (text : List ℕ) (w : Workload) → reading_of text ≡ Ok w → Spells text w
unfolding reading_of
reading_found text w e =
    elim (chosen (ltb most_bytes (length text)) _ (run start 0 (lines_of text)) (Ok w) e) [
      | inl p ↦ absurd (fault_ok p.1)
      | inr p ↦ spells_run text w (ltb-false _ _ p.0) (run_takes start 0 (lines_of text) w start_kept p.1)
    ]

pub reading_only : (text : List ℕ) (w : Workload) → Spells text w → reading_of text ≡ Ok w
unfolding reading_of
reading_only text w s =
    rw (le-ltb most_bytes (length text) s.short) (run_again start 0 (lines_of text) (items_of w) (state_of w) (record { names = tt; each = tt }) s.printable (work_walk w (said_in (lines_of text)) s.work s.lines) ∙ work_ended w (0 + length (lines_of text)))

pub is_found : (text : List ℕ) (r : Result Workload WorkFault) → Reads r (reading_of text) → IfOk r (λ w. Spells text w)
is_found text (Ok w) e = reading_found text w e
is_found text (Err f) e = tt

-- ---- laws

pub spelling : ReadingIsSpelling
spelling text w = (reading_found text w, reading_only text w)

pub one_work : (v w : Workload) → read v ≡ read w → v ≡ w
one_work v w e = cc

pub spells_one : SpellsOne
spells_one text w v s t = one_work w v (sym (reading_only text w s) ∙ reading_only text v t)

pub spells_none : FaultSpellsNone
spells_none text w f e s = fault_ok (sym e ∙ reading_only text w s)

pub one_reading : EachTextHasOneReading
one_reading text = by (reading_of text) refl
  where
    by : (r : Result Workload Fault) → reading_of text ≡ r → HasOneReading text
    by (Ok w) e = inl (w, e, reading_found text w e, λ v s. one_work v w (sym (reading_only text v s) ∙ e))
    by (Err f) e = inr (f, e, λ w s. spells_none text w f e s)

pub canonical_read : CanonicalIsRead
canonical_read w ok short = reading_only (canonical_text w) w (canonical_spells w ok short)
