-- What is known of the passes of a run once the root took them back, and that what was seen is then a run.
use Rattle.std.proofs.Common.{◌≡◌, ◌≢◌, ⊎_elim, ℕ, ◌+◌, ◌<◌, ◌≤◌, List, [], ◌∷◌, ◌++◌, length, map, refl, ap, sym, ◌∙◌, subst, arith, append_assoc, length-append}
use Rattle.std.specs.List.{AllByRecursion}
use mathlib.Core.List.{IsPrefix}
use Rattle.std.proofs.lemmas.Bool.{cases_lt}
use mathlib.Core.Logic.{dite}
use native.Mathlib.Decide.{ℕ_discrete}
use Rattle.op_table.specs.declared.call.Call.{Call}
use Rattle.op_table.specs.declared.call.Reply.{Reply}
use Rattle.place_core.specs.declared.entry.Entry.{Entry}
use Rattle.place_core.specs.declared.script.Line.{Line}
use Rattle.place_core.specs.declared.shape.Shape.{Shape}
use Rattle.place_core.specs.Cells.{entries_by}
use Rattle.place_core.specs.Passes.{IsEnded}
use Rattle.place_core.specs.Runs.{made_of}
use Rattle.place_core.proofs.EntryLists.{made_by-own_first, made_by-between}
use Rattle.place_core.proofs.Prefixes.{prefix_trans, prefix_shorter}
use Rattle.seat_views.specs.declared.view.Ended.{Ended}
use Rattle.seat_views.specs.Rule.{caller_of, number_of_ended, entries_of_ended}
use Rattle.seat_views.specs.Makes.{entries_with}
use Rattle.seat_views.proofs.Making.{none_made}
use Rattle.whole_run.specs.Stages.{IsBack, AreBack}

-- ---- entries of calls with their replies

pub made_with : (c : ℕ) (calls : List (ℕ × Call)) (rs : List Reply) → length rs ≡ length calls → map made_of (entries_with c calls rs) ≡ calls
made_with c [] rs same = refl
made_with c (a ∷ calls) [] same = absurd (omega arith)
made_with c (a ∷ calls) (r ∷ rs) same = ap (λ (l : List (ℕ × Call)). (a.0, a.1) ∷ l) (made_with c calls rs (omega arith))

pub replies_with : (c : ℕ) (calls : List (ℕ × Call)) (rs : List Reply) → length rs ≡ length calls → map (λ (x : Entry). x.reply) (entries_with c calls rs) ≡ rs
replies_with c [] [] same = refl
replies_with c [] (r ∷ rs) same = absurd (omega arith)
replies_with c (a ∷ calls) [] same = absurd (omega arith)
replies_with c (a ∷ calls) (r ∷ rs) same = ap (λ (l : List Reply). r ∷ l) (replies_with c calls rs (omega arith))

-- ---- which entries are whose

-- where no other caller made an entry all are caller 0's
pub only_zero : (n : ℕ) (H : List Entry) → AllByRecursion (λ x. x.caller ≤ n) H → ((c : ℕ) → 1 ≤ c → c ≤ n → AllByRecursion (λ x. x.caller ≢ c) H) → AllByRecursion (λ x. x.caller ≡ 0) H
only_zero n [] within none = tt
only_zero n (x ∷ H) within none = (
  dite (ℕ_discrete x.caller 0) (λ zeroth. zeroth) (λ other. absurd ((none x.caller (omega arith) within.0).0 refl)),
  only_zero n H within.1 (λ c from_one le. (none c from_one le).1),
)

-- an entry of caller c stands in each beginning that has all entries of c
pub stands_in : (F H before : List Entry) (x : Entry) (rest : List Entry) → IsPrefix F H → H ≡ before ++ x ∷ rest → entries_by F x.caller ≡ entries_by H x.caller → IsPrefix (before ++ x ∷ []) F
stands_in F H before x rest front split same =
    let caller = λ (y : Entry). y.caller in
    let here : IsPrefix (before ++ x ∷ []) H = (rest, append_assoc before (x ∷ []) rest ∙ sym split) in
    let back : IsPrefix before H = (x ∷ rest, sym split) in
    ⊎_elim
    (λ (short : length F < length before + 1).
    let first : IsPrefix F before = prefix_shorter F before H front back (omega arith) in
    let one = made_by-between caller F before H (entries_by H x.caller) x.caller first back same refl in
    let two = made_by-between caller F (before ++ x ∷ []) H (entries_by H x.caller) x.caller (prefix_trans F before (before ++ x ∷ []) first (x ∷ [], refl)) here same refl in
    let none = none_made before (x ∷ []) (entries_by H x.caller) x.caller one two in
    let bad : x ∷ entries_by [] x.caller ≡ [] = sym (made_by-own_first caller x [] x.caller refl) ∙ none in
    absurd cc)
    (λ (long : length before + 1 ≤ length F). prefix_shorter (before ++ x ∷ []) F H here front (omega (arith, length-append before (x ∷ []))))
    (cases_lt (length F) (length before + 1))

-- ---- passes that were taken back

IsBack-later : (S : Shape) (H K : List Entry) (i : ℕ) (script : List Line) (r : List Reply) (d : Ended) → IsPrefix H K → IsBack S H i script r d → IsBack S K i script r d
IsBack-later S H K i script r d longer b = record {
  number = b.number;
  count = b.count;
  entries = b.entries;
  paths = b.paths;
  aside = b.aside;
  seen = b.seen;
  front = prefix_trans b.seen H K b.front longer;
  own = b.own;
  earned = b.earned;
}

-- what was taken back stays so as the root sees more
pub AreBack-later : (S : Shape) (H K : List Entry) (i : ℕ) (scripts : List (List Line)) (rs : List (List Reply)) (ds : List Ended) → IsPrefix H K → AreBack S H i scripts rs ds → AreBack S K i scripts rs ds
AreBack-later S H K i [] [] [] longer all = tt
AreBack-later S H K i [] [] (d ∷ ds) longer all = absurd all
AreBack-later S H K i [] (r ∷ rs) ds longer all = absurd all
AreBack-later S H K i (script ∷ scripts) [] ds longer all = absurd all
AreBack-later S H K i (script ∷ scripts) (r ∷ rs) [] longer all = absurd all
AreBack-later S H K i (script ∷ scripts) (r ∷ rs) (d ∷ ds) longer all = (
  IsBack-later S H K i script r d longer all.0,
  AreBack-later S H K (i + 1) scripts rs ds longer all.1,
)

-- one more
pub AreBack-more : (S : Shape) (H : List Entry) (i j : ℕ) (scripts : List (List Line)) (script : List Line) (rs : List (List Reply)) (r : List Reply) (ds : List Ended) (d : Ended)
    → AreBack S H i scripts rs ds → j ≡ i + length scripts → IsBack S H j script r d → AreBack S H i (scripts ++ script ∷ []) (rs ++ r ∷ []) (ds ++ d ∷ [])
AreBack-more S H i j [] script [] r [] d all at back = let same : j ≡ i = omega arith in (subst (λ n. IsBack S H n script r d) same back, tt)
AreBack-more S H i j [] script [] r (e ∷ ds) d all at back = absurd all
AreBack-more S H i j [] script (o ∷ rs) r ds d all at back = absurd all
AreBack-more S H i j (first ∷ scripts) script [] r ds d all at back = absurd all
AreBack-more S H i j (first ∷ scripts) script (o ∷ rs) r [] d all at back = absurd all
AreBack-more S H i j (first ∷ scripts) script (o ∷ rs) r (e ∷ ds) d all at back = (all.0, AreBack-more S H (i + 1) j scripts script rs r ds d all.1 (omega arith) back)

-- the pass of a number among them
pub record Found (S : Shape) (H : List Entry) (i : ℕ) : Type 0 where
  pub script : List Line
  pub replies : List Reply
  pub ended : Ended
  pub back : IsBack S H i script replies ended
  pub all : entries_by H i ≡ ended.entries

pub AreBack-find : (S : Shape) (H : List Entry) (given i c : ℕ) (scripts : List (List Line)) (rs : List (List Reply)) (ds : List Ended)
    → AllByRecursion (IsEnded caller_of number_of_ended entries_of_ended H given) ds → AreBack S H i scripts rs ds → i ≤ c → c < i + length scripts → Found S H c
AreBack-find S H given i c [] rs ds known all from_i below = absurd (omega arith)
AreBack-find S H given i c (script ∷ scripts) [] ds known all from_i below = absurd all
AreBack-find S H given i c (script ∷ scripts) (r ∷ rs) [] known all from_i below = absurd all
AreBack-find S H given i c (script ∷ scripts) (r ∷ rs) (d ∷ ds) known all from_i below = dite (ℕ_discrete i c)
    (λ here. record {
      script = script;
      replies = r;
      ended = d;
      back = subst (λ n. IsBack S H n script r d) here all.0;
      all = ap (entries_by H) (sym (all.0.number ∙ here)) ∙ known.0.own;
    })
    (λ later. AreBack-find S H given (i + 1) c scripts rs ds known.1 all.1 (omega arith) (omega arith))
