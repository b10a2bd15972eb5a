-- The passes of an arena after each kind of step.
use Rattle.std.proofs.Common.{◌≡◌, ◌≢◌, ℕ, ◌≤◌, ◌+◌, ◌==◌, Bool, true, false, if◌then◌else◌, List, [], ◌∷◌, ◌++◌, length, ap, sym, ◌∙◌, subst, refl, arith, Option, Some, None, eq-eqb, ne_eqb}
use Rattle.std.specs.List.{AllByRecursion}
use mathlib.Core.List.{IsPrefix}
use Rattle.place_core.specs.Histories.{made_by, CallersWithin}
use Rattle.place_core.specs.Passes.{Kept, NoneKept, NoteKept, PassKept, Known, Party, NoParty, NoteOf, PassOf, IsRootSound, Gone, KnowsKept, KnowsEnded, KnowsRoot, KnowsPass, Knows, longer, with_entry, with_given, new_pass, owner_given, owner_gone}
use Rattle.place_core.proofs.Prefixes.{prefix_self, prefix_more, prefix_whole, prefix_length}
use Rattle.place_core.proofs.EntryLists.{all_map, CallersWithin-prefix, made_by-own, made_by-other, made_by-new}

-- ---- the longer of two beginnings

module _ {E : Type 0} where
  pub longer_left : (a b l : List E) → IsPrefix a l → IsPrefix b l → IsPrefix a (longer a b)
  longer_left [] b l p q = (b, refl)
  longer_left (x ∷ a) [] l p q = prefix_self (x ∷ a)
  longer_left (x ∷ a) (y ∷ b) [] p q = absurd (cc (p.1))
  longer_left (x ∷ a) (y ∷ b) (z ∷ l) p q = let r = longer_left a b l (p.0, cc (p.1)) (q.0, cc (q.1)) in (r.0, ap (λ (w : List E). x ∷ w) r.1)

  pub longer_right : (a b l : List E) → IsPrefix a l → IsPrefix b l → IsPrefix b (longer a b)
  longer_right [] b l p q = prefix_self b
  longer_right (x ∷ a) [] l p q = (x ∷ a, refl)
  longer_right (x ∷ a) (y ∷ b) [] p q = absurd (cc (p.1))
  longer_right (x ∷ a) (y ∷ b) (z ∷ l) p q = let heads : x ≡ y = cc (p.1, q.1) in let r = longer_right a b l (p.0, cc (p.1)) (q.0, cc (q.1)) in (r.0, cc (heads, r.1))

  pub longer_within : (a b l : List E) → IsPrefix a l → IsPrefix b l → IsPrefix (longer a b) l
  longer_within [] b l p q = q
  longer_within (x ∷ a) [] l p q = p
  longer_within (x ∷ a) (y ∷ b) [] p q = absurd (cc (p.1))
  longer_within (x ∷ a) (y ∷ b) (z ∷ l) p q = let head : x ≡ z = cc (p.1) in let r = longer_within a b l (p.0, cc (p.1)) (q.0, cc (q.1)) in (r.0, cc (head, r.1))

  -- a list that has the whole as its beginning is the whole
  pub whole_between : (a b l : List E) → IsPrefix a b → IsPrefix b l → a ≡ l → b ≡ l
  whole_between a b l p q e = prefix_whole b l q (subst (λ (z : List E). length z ≤ length b) e (prefix_length a b p))

module _ {E D : Type 0} (caller_of : E → ℕ) (number_of : D → ℕ) (entries_of : D → List E) where
  -- ---- an entry more

  module _ (log : List E) (count : ℕ) (owner : ℕ → Option ℕ) (x : E) (id : ℕ) (seat : owner (caller_of x) ≡ Some id) where
    pub gone_stays : (n : ℕ) (own : List E) → Gone caller_of number_of entries_of log count owner n own → Gone caller_of number_of entries_of (log ++ x ∷ []) count owner n own
    gone_stays n own g = let free = g.free in let ne : caller_of x ≢ n = λ e. let bad : Some id ≡ None = sym seat ∙ (ap owner e ∙ free) in cc in
        record { free = g.free; from_one = g.from_one; within = g.within; all = made_by-other caller_of log x n ne ∙ g.all }

    pub kept_stays : (ended : List D) (k : Kept E) → KnowsKept caller_of number_of entries_of log count owner ended k → KnowsKept caller_of number_of entries_of (log ++ x ∷ []) count owner ended k
    kept_stays ended NoneKept h = tt
    kept_stays ended (NoteKept seen) h = prefix_more seen log (x ∷ []) h
    kept_stays ended (PassKept n seen mine) h = (gone_stays n mine h.0, prefix_more seen log (x ∷ []) h.1, h.2, h.3)

    pub root_stays : (p : Known E D) → KnowsRoot caller_of number_of entries_of log count owner p → KnowsRoot caller_of number_of entries_of (log ++ x ∷ []) count owner p
    root_stays p r = record { given = r.given; ended = all_map _ _ p.ended (λ d k. (gone_stays (number_of d) (entries_of d) k.0, k.1)) r.ended; once = r.once }

    pub other_knows : (j : ℕ) (d : Party E D) → j ≢ id → Knows caller_of number_of entries_of log count owner j d → Knows caller_of number_of entries_of (log ++ x ∷ []) count owner j d
    other_knows j NoParty apart k = tt
    other_knows j (NoteOf seen) apart k = prefix_more seen log (x ∷ []) k
    other_knows j (PassOf p) apart k =
        let mine = k.owned in
        let ne : caller_of x ≢ p.number = λ e. let bad : Some id ≡ Some j = sym seat ∙ (ap owner e ∙ mine) in apart (cc (bad)) in record {
          owned = k.owned;
          within = k.within;
          prefix = prefix_more p.seen log (x ∷ []) k.prefix;
          all = made_by-other caller_of log x p.number ne ∙ k.all;
          own = k.own;
          beside = kept_stays p.ended p.beside k.beside;
          root = λ z. root_stays p (k.root z);
        }

    pub own_knows : (p : Known E D) → caller_of x ≡ p.number → KnowsPass caller_of number_of entries_of log count owner id p → KnowsPass caller_of number_of entries_of (log ++ x ∷ []) count owner id (with_entry p log x)
    own_knows p own k =
        let mine : made_by caller_of (log ++ x ∷ []) p.number ≡ p.mine ++ x ∷ [] = made_by-own caller_of log x p.number own ∙ ap (λ (l : List E). l ++ x ∷ []) k.all in record {
          owned = k.owned;
          within = k.within;
          prefix = prefix_self (log ++ x ∷ []);
          all = mine;
          own = mine;
          beside = tt;
          root = λ z. let r = k.root z in record { given = r.given; ended = all_map _ _ p.ended (λ d f. let g = gone_stays (number_of d) (entries_of d) f.0 in (g, g.all)) r.ended; once = r.once };
        }

  -- what the rule knows of a pass that hands out its own state
  pub root_sound : (log : List E) (count : ℕ) (owner : ℕ → Option ℕ) (j : ℕ) (p : Known E D) → CallersWithin caller_of count log → KnowsPass caller_of number_of entries_of log count owner j p
      → p.number ≡ 0 → IsRootSound caller_of number_of entries_of p.seen p.given p.ended
  root_sound log count owner j p callers k z = let r = k.root z in record {
    callers = subst (λ (n : ℕ). CallersWithin caller_of n p.seen) (sym r.given) (CallersWithin-prefix caller_of count p.seen log k.prefix callers);
    back = all_map _ _ p.ended (λ d f. let g = f.0 in record { from_one = g.from_one; within = subst (λ (n : ℕ). number_of d ≤ n) (sym r.given) g.within; own = f.1 }) r.ended;
    once = r.once;
  }

  -- ---- a number more

  module _ (log : List E) (count : ℕ) (owner : ℕ → Option ℕ) (seat : ℕ) where
    pub old_owner : (n : ℕ) → n ≤ count → owner_given owner (count + 1) seat n ≡ owner n
    old_owner n le = let ne : n ≢ count + 1 = λ e. omega arith in ap (λ (b : Bool). if b then Some seat else owner n) (ne_eqb n (count + 1) ne)

    pub gone_given : (n : ℕ) (own : List E) → Gone caller_of number_of entries_of log count owner n own → Gone caller_of number_of entries_of log (count + 1) (owner_given owner (count + 1) seat) n own
    gone_given n own g = let le = g.within in record { free = old_owner n g.within ∙ g.free; from_one = g.from_one; within = omega arith; all = g.all }

    pub kept_given : (ended : List D) (k : Kept E) → KnowsKept caller_of number_of entries_of log count owner ended k → KnowsKept caller_of number_of entries_of log (count + 1) (owner_given owner (count + 1) seat) ended k
    kept_given ended NoneKept h = tt
    kept_given ended (NoteKept seen) h = h
    kept_given ended (PassKept n seen mine) h = (gone_given n mine h.0, h.1, h.2, h.3)

    pub ended_given : (seen : List E) (l : List D) → AllByRecursion (KnowsEnded caller_of number_of entries_of log count owner seen) l → AllByRecursion (KnowsEnded caller_of number_of entries_of log (count + 1) (owner_given owner (count + 1) seat) seen) l
    ended_given seen l h = all_map _ _ l (λ d f. (gone_given (number_of d) (entries_of d) f.0, f.1)) h

    pub other_given : (id j : ℕ) (d : Party E D) → owner 0 ≡ Some id → j ≢ id → Knows caller_of number_of entries_of log count owner j d → Knows caller_of number_of entries_of log (count + 1) (owner_given owner (count + 1) seat) j d
    other_given id j NoParty root apart k = tt
    other_given id j (NoteOf seen) root apart k = k
    other_given id j (PassOf p) root apart k = let le = k.within in record {
      owned = old_owner p.number k.within ∙ k.owned;
      within = omega arith;
      prefix = k.prefix;
      all = k.all;
      own = k.own;
      beside = kept_given p.ended p.beside k.beside;
      root = λ z. let bad : Some j ≡ Some id = sym k.owned ∙ (ap owner z ∙ root) in absurd (apart (cc (bad)));
    }

    pub giver_knows : (id : ℕ) (p : Known E D) → KnowsPass caller_of number_of entries_of log count owner id p → KnowsPass caller_of number_of entries_of log (count + 1) (owner_given owner (count + 1) seat) id (with_given p)
    giver_knows id p k = let le = k.within in record {
      owned = old_owner p.number k.within ∙ k.owned;
      within = omega arith;
      prefix = k.prefix;
      all = k.all;
      own = k.own;
      beside = kept_given p.ended p.beside k.beside;
      root = λ z. let r = k.root z in record { given = ap (λ (n : ℕ). n + 1) r.given; ended = ended_given p.seen p.ended r.ended; once = r.once };
    }

    pub new_knows : (id : ℕ) (p : Known E D) → CallersWithin caller_of count log → KnowsPass caller_of number_of entries_of log count owner id p → p.given ≡ count
        → KnowsPass caller_of number_of entries_of log (count + 1) (owner_given owner (count + 1) seat) seat (new_pass p)
    new_knows id p callers k given_is = record {
      owned = ap (λ (b : Bool). if b then Some seat else owner (p.given + 1)) (eq-eqb (p.given + 1) (count + 1) (ap (λ (n : ℕ). n + 1) given_is));
      within = omega arith;
      prefix = k.prefix;
      all = made_by-new caller_of count (p.given + 1) log callers (omega arith);
      own = made_by-new caller_of count (p.given + 1) p.seen (CallersWithin-prefix caller_of count p.seen log k.prefix callers) (omega arith);
      beside = tt;
      root = λ z. absurd (omega arith);
    }

  -- ---- a number whose pass is spent

  module _ (log : List E) (count : ℕ) (owner : ℕ → Option ℕ) (n : ℕ) where
    pub kept_owner : (m : ℕ) → m ≢ n → owner_gone owner n m ≡ owner m
    kept_owner m ne = ap (λ (b : Bool). if b then None else owner m) (ne_eqb m n ne)

    pub none_owner : (m : ℕ) → owner m ≡ None → owner_gone owner n m ≡ None
    none_owner m e = go (m == n)
      where
        go : (b : Bool) → (if b then None else owner m) ≡ None
        go true = refl
        go false = e

    pub gone_spent : (m : ℕ) (own : List E) → Gone caller_of number_of entries_of log count owner m own → Gone caller_of number_of entries_of log count (owner_gone owner n) m own
    gone_spent m own g = record { free = none_owner m g.free; from_one = g.from_one; within = g.within; all = g.all }

    pub kept_spent : (ended : List D) (k : Kept E) → KnowsKept caller_of number_of entries_of log count owner ended k → KnowsKept caller_of number_of entries_of log count (owner_gone owner n) ended k
    kept_spent ended NoneKept h = tt
    kept_spent ended (NoteKept seen) h = h
    kept_spent ended (PassKept m seen mine) h = (gone_spent m mine h.0, h.1, h.2, h.3)

    pub ended_spent : (seen : List E) (l : List D) → AllByRecursion (KnowsEnded caller_of number_of entries_of log count owner seen) l → AllByRecursion (KnowsEnded caller_of number_of entries_of log count (owner_gone owner n) seen) l
    ended_spent seen l h = all_map _ _ l (λ d f. (gone_spent (number_of d) (entries_of d) f.0, f.1)) h

    pub other_spent : (other j : ℕ) (d : Party E D) → owner n ≡ Some other → j ≢ other → Knows caller_of number_of entries_of log count owner j d → Knows caller_of number_of entries_of log count (owner_gone owner n) j d
    other_spent other j NoParty seat apart k = tt
    other_spent other j (NoteOf seen) seat apart k = k
    other_spent other j (PassOf p) seat apart k =
        let ne : p.number ≢ n = λ e. let bad : Some j ≡ Some other = sym k.owned ∙ (ap owner e ∙ seat) in apart (cc (bad)) in record {
          owned = kept_owner p.number ne ∙ k.owned;
          within = k.within;
          prefix = k.prefix;
          all = k.all;
          own = k.own;
          beside = kept_spent p.ended p.beside k.beside;
          root = λ z. let r = k.root z in record { given = r.given; ended = ended_spent p.seen p.ended r.ended; once = r.once };
        }
