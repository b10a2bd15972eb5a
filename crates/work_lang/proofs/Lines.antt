-- A line that is read says the item, and a line that says an item is read.
use Rattle.std.proofs.Common.{◌≡◌, ℕ, ◌≤◌, ◌<◌, ◌^◌, ltb, true, not, List, [], ◌∷◌, length, Option, Some, None, Result, Ok, Err, refl, sym, ap, subst, inl, inr}
use Rattle.std.specs.Prelude.{codes}
use Rattle.std.specs.Str.{bytes_eq}
use Rattle.std.specs.Option.{is_some}
use Rattle.std.proofs.lemmas.Bool.{ltb-true, lt-ltb}
use Rattle.line_words.specs.Cursor.{Cursor}
use Rattle.op_table.specs.Value.{parsed_value}
use Rattle.op_table.specs.declared.kind.Kind.{Kind}
use Rattle.op_table.specs.Kind.{IsKind}
use Rattle.op_table.specs.Words.{kind_of_word}
use Rattle.op_table.proofs.ValueTexts.{read_is_value}
use Rattle.target_desc.specs.declared.target.Target.{Target}
use Rattle.target_desc.specs.declared.reading.TargetFault.{TargetFault}
use Rattle.target_desc.specs.Target.{IsTarget, IsVersion, IsOfVersion}
use Rattle.target_desc.specs.Reading.{target_at}
use Rattle.target_desc.specs.Spelling.{IsTargetText}
use Rattle.target_desc.proofs.Readings.{reading_is_spelling, read_is_target}
use Rattle.place_core.specs.declared.name.Declared.{Declared}
use Rattle.place_core.specs.Name.{name_of, is_name}
use Rattle.work_lang.specs.declared.fault.Cause.TheVariants as causes
use Rattle.work_lang.specs.declared.item.Item.{Item}
use Rattle.work_lang.specs.declared.item.Item.TheVariants as items
use Rattle.work_lang.specs.Limits.{most_threads}
use Rattle.work_lang.specs.Slips.{word_at, end_at, need_at, check_at, value_at}
use Rattle.place_core.specs.DeclaredObjects.{IsDeclared}
use Rattle.work_lang.specs.Workload.{object_of}
use Rattle.work_lang.specs.declared.item.OpenBlock.{OpenBlock}
use Rattle.work_lang.specs.Operands.{position_kind}
use Rattle.work_lang.specs.Reading.{version_of_word, version_at, target_or, target_line_at, object_at, thread_at, repeat_at}
use Rattle.work_lang.specs.Spelling.{IsSaid}
use Rattle.work_lang.proofs.Steps.{bind_then, check_then, word_then, end_then, need_then, value_then, chosen, ok_is, some_is, none_some, is_word}
use Rattle.work_lang.proofs.OperandTexts.{position_is_kind}
use Rattle.work_lang.proofs.Values.{kind_is_one}

two : (w v a b : List ℕ) (ws rest : List (List ℕ)) → w ≡ a → ws ≡ v ∷ rest → v ≡ b → rest ≡ [] → w ∷ ws ≡ a ∷ b ∷ []
two w v a b ws rest e f g h = cc

version_is_one : (w : List ℕ) (version : ℕ) → version_of_word w ≡ Some version → IsVersion version
version_is_one w version e =
    elim (chosen (bytes_eq w (codes "1")) _ _ (Some version) e) [
      | inl p ↦ inl (sym (some_is 1 version p.1))
      | inr p ↦ elim (chosen (bytes_eq w (codes "2")) _ _ (Some version) p.1) [
        | inl q ↦ inr (sym (some_is 2 version q.1))
        | inr q ↦ absurd (none_some q.1)
      ]
    ]

pub version_takes : (objects : List Declared) (w : List ℕ) (c : Cursor) (i : Item) → version_at w c ≡ Ok i → (version : ℕ) × (items.Version version ≡ i) × IsVersion version × IsSaid objects (items.Version version) (w ∷ c.left)
unfolding version_at
version_takes objects w c i e =
    let a = check_then c causes.Version (bytes_eq w (codes "work")) _ i e in
    let b = word_then c _ i a.1 in
    let d = need_then _ causes.Version (version_of_word b.0) _ i b.3 in
    let f = end_then _ _ i d.2 in
    (d.0, ok_is _ _ f.1, version_is_one b.0 d.0 d.1, (b.0, d.1, two _ _ _ _ _ _ (is_word _ _ a.0) b.2 refl f.0))

pub version_again : (c : Cursor) (word : List ℕ) (version : ℕ) → version_of_word word ≡ Some version → c.left ≡ word ∷ [] → version_at (codes "work") c ≡ Ok (items.Version version)
unfolding version_at check_at word_at need_at end_at
version_again c word version is e = rw (e, is) refl

-- ---- targets

target_or_ok : (r : Result Target TargetFault) (t : Target) → target_or r ≡ Ok t → r ≡ Ok t
target_or_ok (Ok s) t e = cc
target_or_ok (Err f) t e = absurd cc

-- version 2 says a target in all words in which a version says it, and a version in the same where it has the target
said_in_second : (version : ℕ) (ws : List (List ℕ)) (t : Target) → IsTargetText version ws t → IsTargetText 2 ws t
said_in_second version ws t (inl name) = inl name
said_in_second version ws t (inr words) = inr (words.0, (λ big. refl), words.2)

said_in_own : (version : ℕ) (ws : List (List ℕ)) (t : Target) → IsOfVersion version t → IsTargetText 2 ws t → IsTargetText version ws t
said_in_own version ws t of (inl name) = inl name
said_in_own version ws t of (inr words) = inr (words.0, of, words.2)

pub record TakesTarget (version : ℕ) (t : Target) (ws : List (List ℕ)) : Type 0 where
  pub target : IsTarget t
  pub of_version : IsOfVersion version t
  pub said : IsTargetText 2 ws t

pub target_takes : (version : ℕ) (w : List ℕ) (c : Cursor) (i : Item) → target_line_at version w c ≡ Ok i → (t : Target) × (items.Target t ≡ i) × (w ≡ codes "target") × TakesTarget version t c.left
unfolding target_line_at
target_takes version w c i e =
    let a = check_then c causes.UnknownWord (bytes_eq w (codes "target")) _ i e in
    let t = bind_then (target_or (target_at version c)) _ i a.1 in
    let read = target_or_ok (target_at version c) t.0 t.1 in
    let is = read_is_target version c t.0 read in
    (t.0, ok_is _ _ t.2, is_word _ _ a.0, record { target = is.0; of_version = is.1; said = said_in_second version c.left t.0 ((reading_is_spelling version c t.0).0 read) })

pub target_again : (version : ℕ) (c : Cursor) (t : Target) → IsOfVersion version t → IsTargetText 2 c.left t → target_line_at version (codes "target") c ≡ Ok (items.Target t)
unfolding target_line_at check_at
target_again version c t of said = rw ((reading_is_spelling version c t).1 (said_in_own version c.left t of said)) refl

-- ---- objects

name_takes : (w name : List ℕ) → name_of w ≡ Some name → (w ≡ name) × (is_name name ≡ true)
name_takes w name e =
    elim (chosen (is_name w) (Some w) None (Some name) e) [
      | inl p ↦ (some_is w name p.1, subst (λ v. is_name v ≡ true) (some_is w name p.1) p.0)
      | inr p ↦ absurd (none_some p.1)
    ]

name_again : (w : List ℕ) → is_name w ≡ true → name_of w ≡ Some w
name_again w e = rw e refl

-- the words of a line, one by one
four : (w v u a : List ℕ) (ws rest more last : List (List ℕ)) → ws ≡ w ∷ rest → w ≡ a → rest ≡ v ∷ more → more ≡ u ∷ last → last ≡ [] → ws ≡ a ∷ v ∷ u ∷ []
four w v u a ws rest more last e1 e2 e3 e4 e5 = cc

is_none_from : {A : Type 0} (o : Option A) → not (is_some o) ≡ true → o ≡ None
is_none_from None e = refl
is_none_from (Some x) e = absurd cc

pub record TakesObject (most : ℕ) (objects : List Declared) (d : Declared) (ws : List (List ℕ)) : Type 0 where
  pub few : length objects < most
  pub is_name : is_name d.name ≡ true
  pub new : object_of objects d.name ≡ None
  pub object : IsDeclared d
  pub said : IsSaid objects (items.Object d) (codes "object" ∷ ws)

abbrev declared : List ℕ → Kind → ℕ → Declared
declared name kind start = record { name = name; kind = kind; start = start }

pub object_takes : (most : ℕ) (objects : List Declared) (c : Cursor) (i : Item) → object_at most objects c ≡ Ok i → (d : Declared) × (items.Object d ≡ i) × TakesObject most objects d c.left
unfolding object_at
object_takes most objects c i e =
    let a = check_then c causes.Limit (ltb (length objects) most) _ i e in
    let n = word_then c _ i a.1 in
    let m = need_then _ causes.UnknownWord (name_of n.0) _ i n.3 in
    let t = check_then _ causes.Twice (not (is_some (object_of objects n.0))) _ i m.2 in
    let k = word_then _ _ i t.1 in
    let kind = need_then _ causes.UnknownWord (kind_of_word k.0) _ i k.3 in
    let v = word_then _ _ i kind.2 in
    let s = value_then _ (parsed_value kind.0 v.0) _ i v.3 in
    let f = end_then _ _ i s.2 in
    let name = name_takes n.0 m.0 m.1 in
    let is : IsKind kind.0 = kind_is_one k.0 kind.0 kind.1 in (
      declared m.0 kind.0 s.0,
      ok_is (items.Object (declared m.0 kind.0 s.0)) i f.1,
      record {
        few = ltb-true _ _ a.0;
        is_name = name.1;
        new = subst (λ (w : List ℕ). object_of objects w ≡ None) name.0 (is_none_from _ t.0);
        object = (is, read_is_value kind.0 v.0 s.0 is s.1);
        said = (k.0, v.0, kind.1, s.1, ap (λ (ws : List (List ℕ)). codes "object" ∷ ws) (four _ _ _ _ _ _ _ _ n.2 name.0 k.2 v.2 f.0));
      },
    )

pub object_again : (most : ℕ) (objects : List Declared) (d : Declared) (kind value : List ℕ) (k : ℕ) → length objects < most → is_name d.name ≡ true → object_of objects d.name ≡ None → kind_of_word kind ≡ Some d.kind → parsed_value d.kind value ≡ Ok d.start → object_at most objects (record { taken = k; left = d.name ∷ kind ∷ value ∷ [] }) ≡ Ok (items.Object d)
unfolding object_at check_at word_at end_at need_at value_at
object_again most objects d kind value k few named new kind-is value-is = rw (lt-ltb _ _ few, name_again d.name named, new, kind-is, value-is) refl

-- ---- threads

pub thread_takes : (threads : ℕ) (c : Cursor) (i : Item) → thread_at threads c ≡ Ok i → (items.Thread ≡ i) × (threads < most_threads) × (c.left ≡ [])
unfolding thread_at
thread_takes threads c i e =
    let a = check_then c causes.Limit (ltb threads most_threads) _ i e in
    let f = end_then _ _ i a.1 in
    (ok_is _ _ f.1, ltb-true _ _ a.0, f.0)

pub thread_again : (threads k : ℕ) → threads < most_threads → thread_at threads (record { taken = k; left = [] }) ≡ Ok items.Thread
unfolding thread_at check_at end_at
thread_again threads k few = rw (lt-ltb _ _ few) refl

-- ---- blocks

pub record TakesRepeat (block : Option OpenBlock) (times : ℕ) (ws : List (List ℕ)) : Type 0 where
  pub none : block ≡ None
  pub some : 1 ≤ times
  pub few : times < 2 ^ 32
  pub said : (text : List ℕ) × (parsed_value position_kind text ≡ Ok times) × (ws ≡ text ∷ [])

one : (w : List ℕ) (ws rest : List (List ℕ)) → ws ≡ w ∷ rest → rest ≡ [] → ws ≡ w ∷ []
one w ws rest e f = cc

pub repeat_takes : (block : Option OpenBlock) (c : Cursor) (i : Item) → repeat_at block c ≡ Ok i → (times : ℕ) × (items.Repeat times ≡ i) × TakesRepeat block times c.left
unfolding repeat_at
repeat_takes block c i e =
    let a = check_then c causes.UnknownWord (not (is_some block)) _ i e in
    let w = word_then c _ i a.1 in
    let n = value_then _ (parsed_value position_kind w.0) _ i w.3 in
    let z = check_then _ causes.OutOfRange (ltb 0 n.0) _ i n.2 in
    let f = end_then _ _ i z.1 in (
      n.0,
      ok_is _ _ f.1,
      record {
        none = is_none_from _ a.0;
        some = ltb-true _ _ z.0;
        few = read_is_value position_kind w.0 n.0 position_is_kind n.1;
        said = (w.0, n.1, one w.0 c.left w.1 w.2 f.0);
      },
    )

pub repeat_again : (block : Option OpenBlock) (times k : ℕ) (text : List ℕ) → block ≡ None → 1 ≤ times → parsed_value position_kind text ≡ Ok times → repeat_at block (record { taken = k; left = text ∷ [] }) ≡ Ok (items.Repeat times)
unfolding repeat_at check_at word_at end_at value_at
repeat_again block times k text none some is = rw (none, is, lt-ltb 0 times some) refl
