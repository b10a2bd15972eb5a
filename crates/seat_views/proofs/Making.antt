-- Calls made one after another: none, one, and more; and steps that make none.
use Rattle.std.proofs.Common.{◌≡◌, ◌≢◌, ℕ, List, [], ◌∷◌, ◌++◌, length, refl, ap, sym, ◌∙◌, subst, arith, append_assoc, length-append}
use Rattle.std.proofs.lemmas.List.{append-nil}
use Rattle.std.specs.List.{AllByRecursion}
use Rattle.op_table.specs.declared.call.Call.{Call}
use Rattle.op_table.specs.declared.call.Reply.{Reply}
use Rattle.place_core.specs.declared.entry.Entry.{Entry}
use Rattle.place_core.specs.declared.shape.Shape.{Shape}
use Rattle.place_core.specs.Histories.{Each}
use Rattle.place_core.specs.Cells.{entries_by}
use Rattle.place_core.specs.Earned.{IsEarned, IsSpuriousEntry}
use Rattle.place_core.proofs.EntryLists.{all_rest, Each-none, Each-more, Each-append, Each-weaken, made_by-append, made_by-own, made_by-nowhere}
use Rattle.seat_views.specs.declared.view.Item.{Item}
use Rattle.seat_views.specs.declared.view.Flight.TheVariants.{Idle}
use Rattle.seat_views.specs.Steps.{entry}
use Rattle.seat_views.specs.States.{PassState, IsKept}
use Rattle.seat_views.specs.Makes.{entries_with, EarnsOwn, Makes}
use Rattle.seat_views.specs.MakesLaws.{NothingMakesNone, CallIsMade, StepsMakeNone, MadeJoin, CallsJoin}
use Rattle.seat_views.proofs.PathEating.{one_path_is_paths, paths_join}

-- ---- entries of a caller's own

nothing_more : {A : Type 0} (xs ys : List A) → xs ++ ys ≡ xs → ys ≡ []
nothing_more [] ys e = e
nothing_more (x ∷ xs) ys e = nothing_more xs ys (cc (e))

pub last_out : {A : Type 0} (xs ys : List A) (x : A) → xs ++ x ∷ [] ≡ ys ++ x ∷ [] → xs ≡ ys
last_out [] [] x e = refl
last_out [] (y ∷ []) x e = absurd (cc (e))
last_out [] (y ∷ z ∷ ys) x e = absurd (cc (e))
last_out (y ∷ []) [] x e = absurd (cc (e))
last_out (y ∷ z ∷ xs) [] x e = absurd (cc (e))
last_out (a ∷ xs) (b ∷ ys) x e = let heads : a ≡ b = cc (e) in let rest : xs ++ x ∷ [] ≡ ys ++ x ∷ [] = cc (e) in let more = last_out xs ys x rest in cc (heads, more)

-- a caller whose entries stay has made none
pub none_made : (seen between mine : List Entry) (c : ℕ) → entries_by seen c ≡ mine → entries_by (seen ++ between) c ≡ mine → entries_by between c ≡ []
none_made seen between mine c was is =
    nothing_more (entries_by seen c) (entries_by between c) (sym (made_by-append (λ (x : Entry). x.caller) seen between c) ∙ (is ∙ sym was))

-- what holds of each entry by itself holds of it after any others
each_of_all : (P : Entry → Type 0) (H : List Entry) → AllByRecursion P H → Each (λ G x. P x) H
unfolding Each
each_of_all P H all before x rest e = let cut : AllByRecursion P (before ++ x ∷ rest) = subst (AllByRecursion P) e all in (all_rest P before (x ∷ rest) cut).0

-- a caller with no entry has none to earn
pub earns_none : (S : Shape) (c : ℕ) (H more : List Entry) → entries_by more c ≡ [] → EarnsOwn S c H more
earns_none S c H more none =
    Each-weaken (λ G x. x.caller ≢ c) (λ G x. x.caller ≡ c → IsSpuriousEntry x → IsEarned S (H ++ G) x) more (λ G x other own. absurd (other own))
    (each_of_all (λ (x : Entry). x.caller ≢ c) more (made_by-nowhere (λ (x : Entry). x.caller) more c none))

-- no entry of its own lies between two states of a pass that differ by one
pub none_between : (p q : PassState) (between : List Entry) (x : Entry) → x.caller ≡ p.number → IsKept p → IsKept q → q.number ≡ p.number → q.mine ≡ p.mine ++ x ∷ [] → q.seen ≡ (p.seen ++ between) ++ x ∷ []
    → entries_by between p.number ≡ []
none_between p q between x own kept later number mine seen =
    let all : entries_by (p.seen ++ between) p.number ++ x ∷ [] ≡ p.mine ++ x ∷ [] =
    sym (made_by-own (λ (y : Entry). y.caller) (p.seen ++ between) x p.number own)
    ∙ (ap (λ (l : List Entry). entries_by l p.number) (sym seen) ∙ (ap (entries_by q.seen) (sym number) ∙ (later.own ∙ mine))) in
    none_made p.seen between p.mine p.number kept.own (last_out _ _ x all)

-- ---- no call

pub steps_make_none : StepsMakeNone
steps_make_none S p steps q now kept = record {
  more = [];
  count = refl;
  seen = ap (λ (s : PassState). s.seen) now ∙ sym (append-nil p.seen);
  rest = now ∙ (λ k. record p { seen = ap (λ (s : PassState). s.seen) (sym now) k; mine = sym (append-nil p.mine) k; trail = p.trail ++ steps; flight = Idle });
  earned = Each-none (λ G x. x.caller ≡ p.number → IsSpuriousEntry x → IsEarned S (p.seen ++ G) x);
  kept = kept;
}

pub nothing_makes_none : NothingMakesNone
nothing_makes_none S p rest kept = record {
  steps = [];
  made = steps_make_none S p [] p (λ k. record p { trail = sym (append-nil p.trail) k; flight = rest k }) kept;
  paths = refl;
}

-- steps that make none, while other callers make some
pub others_make_all : (S : Shape) (p : PassState) (more : List Entry) (steps : List Item) (q : PassState) → IsKept p → q.seen ≡ p.seen ++ more
    → q ≡ record p { seen = q.seen; trail = p.trail ++ steps; flight = Idle } → IsKept q → Makes S [] p [] steps q
others_make_all S p more steps q was seen rest kept =
    let number : q.number ≡ p.number = ap (λ (s : PassState). s.number) rest in
    let stays : entries_by (p.seen ++ more) p.number ≡ p.mine =
    ap (λ (l : List Entry). entries_by l p.number) (sym seen) ∙ (ap (entries_by q.seen) (sym number) ∙ (kept.own ∙ ap (λ (s : PassState). s.mine) rest)) in
    record {
      more = more;
      count = refl;
      seen = seen;
      rest = rest ∙ (λ k. record p { seen = q.seen; mine = sym (append-nil p.mine) k; trail = p.trail ++ steps; flight = Idle });
      earned = earns_none S p.number p.seen more (none_made p.seen more p.mine p.number was.own stays);
      kept = kept;
    }

-- ---- one call

pub call_is_made : CallIsMade
call_is_made S o call p r q was h =
    let m = h.made in
    let x : Entry = entry p.number o call r in
    let number : q.number ≡ p.number = ap (λ (s : PassState). s.number) m.rest in
    let mine : q.mine ≡ p.mine ++ x ∷ [] = ap (λ (s : PassState). s.mine) m.rest in
    let earns : List Entry → Entry → Type 0 = λ G y. y.caller ≡ p.number → IsSpuriousEntry y → IsEarned S (p.seen ++ G) y in
    let others = earns_none S p.number p.seen m.between (none_between p q m.between x refl was m.kept number mine m.seen) in
    record {
      steps = h.steps;
      made = record {
        more = m.between ++ x ∷ [];
        count = refl;
        seen = m.seen ∙ append_assoc p.seen m.between (x ∷ []);
        rest = m.rest;
        earned = (Each-more earns m.between x).1 (others, λ own. h.earned);
        kept = m.kept;
      };
      paths = one_path_is_paths S o call r h.steps h.path;
    }

-- ---- more calls

pub entries_with-append : (c : ℕ) (cs ds : List (ℕ × Call)) (rs qs : List Reply) → length rs ≡ length cs → entries_with c (cs ++ ds) (rs ++ qs) ≡ entries_with c cs rs ++ entries_with c ds qs
entries_with-append c [] ds [] qs e = refl
entries_with-append c [] ds (r ∷ rs) qs e = absurd (omega arith)
entries_with-append c (a ∷ cs) ds [] qs e = absurd (omega arith)
entries_with-append c (a ∷ cs) ds (r ∷ rs) qs e = ap (λ (l : List Entry). entry c a.0 a.1 r ∷ l) (entries_with-append c cs ds rs qs (omega arith))

-- what is earned after more is earned after all
earned_later : (S : Shape) (c d : ℕ) (H K more : List Entry) (seen : List Entry) → d ≡ c → seen ≡ H ++ K → EarnsOwn S d seen more
    → Each (λ G x. x.caller ≡ c → IsSpuriousEntry x → IsEarned S (H ++ (K ++ G)) x) more
earned_later S c d H K more seen number is earned =
    Each-weaken (λ G x. x.caller ≡ d → IsSpuriousEntry x → IsEarned S (seen ++ G) x) (λ G x. x.caller ≡ c → IsSpuriousEntry x → IsEarned S (H ++ (K ++ G)) x) more
    (λ G x here own spurious. subst (λ (l : List Entry). IsEarned S l x) (ap (λ (l : List Entry). l ++ G) is ∙ append_assoc H K G) (here (own ∙ sym number) spurious)) earned

pub made_join : MadeJoin
made_join S cs ds p rs T q qs U z m n =
    let number : q.number ≡ p.number = ap (λ (s : PassState). s.number) m.rest in
    let first : List Entry = entries_with p.number cs rs in
    let later : List Entry = entries_with p.number ds qs in
    let count : length rs ≡ length cs = m.count in
    let other : length qs ≡ length ds = n.count in
    record {
      more = m.more ++ n.more;
      count = length-append rs qs ∙ (omega (arith, length-append cs ds));
      seen = n.seen ∙ (ap (λ (l : List Entry). l ++ n.more) m.seen ∙ append_assoc p.seen m.more n.more);
      rest = n.rest
          ∙ (ap (λ (s : PassState). record s { seen = z.seen; mine = s.mine ++ entries_with s.number ds qs; trail = s.trail ++ U; flight = Idle }) m.rest
          ∙ (λ k. record p { seen = z.seen; mine = (append_assoc p.mine first later ∙ ap (λ (l : List Entry). p.mine ++ l) (sym (entries_with-append p.number cs ds rs qs count))) k; trail = append_assoc p.trail T U k; flight = Idle }));
      earned = (Each-append (λ G x. x.caller ≡ p.number → IsSpuriousEntry x → IsEarned S (p.seen ++ G) x) m.more n.more).1 (m.earned, earned_later S p.number q.number p.seen m.more n.more q.seen number m.seen n.earned);
      kept = n.kept;
    }

pub calls_join : CallsJoin
calls_join S cs ds p rs q qs z a b = record {
  steps = a.steps ++ b.steps;
  made = made_join S cs ds p rs a.steps q qs b.steps z a.made b.made;
  paths = paths_join S cs ds rs qs a.steps b.steps a.paths b.paths;
}
