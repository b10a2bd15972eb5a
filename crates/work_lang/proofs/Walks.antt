-- Whole texts: the items that the lines say, one after another, and the states between them.
use Rattle.std.proofs.Common.{◌≡◌, ℕ, ◌+◌, Bool, true, false, List, [], ◌∷◌, length, map, Result, Ok, Err, refl, sym, ap, subst, ◌∙◌, arith, ◌⊎◌, inl, inr, add-zero}
use Rattle.std.specs.Prelude.{filter}
use Rattle.std.specs.List.{list_all, AllByRecursion}
use Rattle.line_words.specs.Text.{words_of}
use Rattle.line_words.specs.Steps.{◌>>=◌}
use Rattle.work_lang.specs.declared.fault.Slip.{Slip}
use Rattle.work_lang.specs.declared.item.Item.{Item}
use Rattle.work_lang.specs.Workload.{Workload}
use Rattle.work_lang.specs.Reading.{State, Fault, next, after_line, is_printable, at_line, ended, run}
use Rattle.work_lang.specs.Spelling.{speaks}
use Rattle.work_lang.specs.Kept.{IsKept}
use Rattle.work_lang.proofs.Keeping.{AreObjects, next_objects}
use Rattle.work_lang.proofs.Items.{Takes, LineTakes, line_takes, line_again, line_passed, line_kept}

-- the lines with these words say these items, and lead from the one state to the other
abbrev pub Walk : State → List Item → List (List (List ℕ)) → State → Type 0
Walk s [] [] t = s ≡ t
Walk s [] (ws ∷ wss) t = ⊥
Walk s (i ∷ is) [] t = ⊥
Walk s (i ∷ is) (ws ∷ wss) t = Takes s i ws × Walk (next s i) is wss t

abbrev pub said_in : List (List ℕ) → List (List (List ℕ))
said_in lines = filter speaks (map words_of lines)

pub record RunTakes (s : State) (lines : List (List ℕ)) (w : Workload) : Type 0 where
  pub items : List Item
  pub last : State
  pub count : ℕ
  pub printable : AllByRecursion (λ line. list_all is_printable line ≡ true) lines
  pub walk : Walk s items (said_in lines) last
  pub ended : ended last.awaits last count ≡ Ok w

line_ok : (n : ℕ) (r : Result State Slip) (f : State → Result Workload Fault) (w : Workload) → (at_line n r >>= f) ≡ Ok w → (t : State) × (r ≡ Ok t) × (f t ≡ Ok w)
line_ok n (Ok t) f w e = (t, refl, e)
line_ok n (Err x) f w e = absurd cc

pub run_takes : (s : State) (n : ℕ) (lines : List (List ℕ)) (w : Workload) → IsKept s → run s n lines ≡ Ok w → RunTakes s lines w
unfolding run
run_takes s n [] w k e = record { items = []; last = s; count = n; printable = tt; walk = refl; ended = e }
run_takes s n (line ∷ lines) w k e =
    let t = line_ok (n + 1) (after_line s line) (λ t. run t (n + 1) lines) w e in
    more t.0 (line_takes s line t.0 k t.1) (run_takes t.0 (n + 1) lines w (line_kept s line t.0 k t.1) t.2)
  where
    more : (t : State) → LineTakes s line t → RunTakes t lines w → RunTakes s (line ∷ lines) w
    more t l r = by_case l.said
      where
        by_case : ((speaks (words_of line) ≡ false) × (s ≡ t)) ⊎ ((i : Item) × (speaks (words_of line) ≡ true) × Takes s i (words_of line) × (next s i ≡ t)) → RunTakes s (line ∷ lines) w
        by_case (inl h) = record { items = r.items; last = r.last; count = r.count; printable = (l.printable, r.printable); walk = rw h.0 (subst (λ (x : State). Walk x r.items (said_in lines) r.last) (sym h.1) r.walk); ended = r.ended }
        by_case (inr h) = record { items = h.0 ∷ r.items; last = r.last; count = r.count; printable = (l.printable, r.printable); walk = rw h.1 (h.2, subst (λ (x : State). Walk x r.items (said_in lines) r.last) (sym h.3) r.walk); ended = r.ended }

-- ---- and back

pub run_again : (s : State) (n : ℕ) (lines : List (List ℕ)) (is : List Item) (t : State) → AreObjects s.objects → AllByRecursion (λ line. list_all is_printable line ≡ true) lines → Walk s is (said_in lines) t → run s n lines ≡ ended t.awaits t (n + length lines)
unfolding run
run_again s n [] [] t ok printable walk = rw (walk, add-zero) refl
run_again s n [] (i ∷ is) t ok printable walk = absurd walk
run_again s n (line ∷ lines) is t ok printable walk =
    at (speaks (words_of line)) refl (λ s' is' ok' walk'. run_again s' (n + 1) lines is' t ok' printable.1 walk')
  where
    at : (b : Bool) → speaks (words_of line) ≡ b → ((s : State) (is : List Item) → AreObjects s.objects → Walk s is (said_in lines) t → run s (n + 1) lines ≡ ended t.awaits t (n + 1 + length lines)) → run s n (line ∷ lines) ≡ ended t.awaits t (n + length (line ∷ lines))
    at false e again =
        let rest = again s is ok (rw e at walk) in
        rw (line_passed s line printable.0 e) (rest ∙ ap (λ (k : ℕ). ended t.awaits t k) (omega arith))
    at true e again = by_item is (rw e at walk)
      where
        by_item : (is : List Item) → Walk s is (words_of line ∷ said_in lines) t → run s n (line ∷ lines) ≡ ended t.awaits t (n + length (line ∷ lines))
        by_item [] none = absurd none
        by_item (i ∷ is) walk =
            let rest = again (next s i) is (next_objects s i ok walk.0.allowed) walk.1 in
            rw (line_again s line i ok printable.0 e walk.0) (rest ∙ ap (λ (k : ℕ). ended t.awaits t k) (omega arith))
