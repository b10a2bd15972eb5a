-- All passes of an arena after each kind of step.
use Rattle.std.proofs.Common.{◌≡◌, ◌≢◌, inl, inr, ⊎_elim, ℕ, ◌≤◌, ◌+◌, ◌==◌, Bool, if◌then◌else◌, List, [], ◌∷◌, ◌++◌, length, set, ap, sym, ◌∙◌, subst, refl, arith, Option, Some, None, eq-eqb}
use Rattle.std.specs.List.{AllByRecursion}
use mathlib.Core.List.{IsPrefix}
use mathlib.Core.Option.{some, some-injective}
use mathlib.Core.Logic.{dite}
use native.Mathlib.Decide.{ℕ_discrete}
use lib.ListN.{get_elem?}
use Rattle.place_core.specs.Histories.{made_by}
use Rattle.place_core.specs.Passes.{Kept, NoneKept, NoteKept, PassKept, Known, Party, NoParty, NoteOf, PassOf, Gone, KnowsKept, KnowsEnded, KnowsRoot, KnowsPass, Knows, KeptSeesAll, SeesAll, IsSeenWhole, Passes, longer, with_entry, with_all, with_given, new_pass, with_kept, with_ended, with_note, owner_given, owner_gone}
use Rattle.place_core.proofs.Prefixes.{prefix_self}
use Rattle.place_core.proofs.EntryLists.{all_map, all_append, Each-none, Each-more, CallersWithin-none, CallersWithin-more, CallersWithin-weaken, made_by-none, made_by-between}
use Rattle.place_core.proofs.Seats.{set_own, set_other, longer_there, one_view, seats_stay, seats_split, seats_join}
use Rattle.place_core.proofs.PassLaws.{longer_left, longer_right, longer_within, whole_between, other_knows, own_knows, other_given, giver_knows, new_knows, other_spent, kept_owner, ended_spent}

module _ {E D V : Type 0} (party : V → Party E D) (Legal : List E → Type 0) (caller_of : E → ℕ) (number_of : D → ℕ) (entries_of : D → List E) where
  -- some view has seen all, where one view was changed into one that has seen as much
  whole_set : (log : List E) (views : List V) (id : ℕ) (v w : V) → get_elem? views id ≡ some v → (SeesAll log (party v) → SeesAll log (party w)) → IsSeenWhole party log views → IsSeenWhole party log (set views id w)
  whole_set log views id v w at keeps h = dite (ℕ_discrete h.seat id)
      (λ e. let same : some h.view ≡ some v = sym h.there ∙ (ap (get_elem? views) e ∙ at) in
      record { seat = id; view = w; there = set_own views id w v at; sees = keeps (subst (λ (x : V). SeesAll log (party x)) (some-injective h.view v same) h.sees) })
      (λ ne. record { seat = h.seat; view = h.view; there = set_other views id h.seat w ne ∙ h.there; sees = h.sees })

  whole_here : (log : List E) (views : List V) (id : ℕ) (v w : V) → get_elem? views id ≡ some v → SeesAll log (party w) → IsSeenWhole party log (set views id w)
  whole_here log views id v w at sees = record { seat = id; view = w; there = set_own views id w v at; sees = sees }

  module _ (log : List E) (count : ℕ) (owner : ℕ → Option ℕ) (views : List V) (h : Passes party Legal caller_of number_of entries_of log count owner views) (id : ℕ) (v : V) (at : get_elem? views id ≡ some v) where
    -- a view that says the same of the history
    pub passes_same : (w : V) → party w ≡ party v → Passes party Legal caller_of number_of entries_of log count owner (set views id w)
    passes_same w same = record {
      legal = h.legal;
      callers = h.callers;
      knows = seats_stay (λ j d. Knows caller_of number_of entries_of log count owner j (party d)) views id w (subst (Knows caller_of number_of entries_of log count owner id) (sym same) (h.knows id v at)) (λ j d _ there. h.knows j d there);
      whole = whole_set log views id v w at (λ s. subst (SeesAll log) (sym same) s) h.whole;
    }

    -- a note of what a view has seen
    pub passes_note : (w n : V) (p : Known E D) → party v ≡ PassOf p → party w ≡ PassOf p → party n ≡ NoteOf p.seen → Passes party Legal caller_of number_of entries_of log count owner (set views id w ++ n ∷ [])
    passes_note w n p is same note = let k : KnowsPass caller_of number_of entries_of log count owner id p = subst (Knows caller_of number_of entries_of log count owner id) is (h.knows id v at) in
        let whole = whole_set log views id v w at (λ s. subst (SeesAll log) (is ∙ sym same) s) h.whole in record {
          legal = h.legal;
          callers = h.callers;
          knows = seats_split (λ j d. Knows caller_of number_of entries_of log count owner j (party d)) views id w n (subst (Knows caller_of number_of entries_of log count owner id) (sym same) k)
              (subst (Knows caller_of number_of entries_of log count owner (length (set views id w))) (sym note) k.prefix) (λ j d _ there. h.knows j d there);
          whole = record { seat = whole.seat; view = whole.view; there = longer_there (set views id w) n whole.seat whole.view whole.there; sees = whole.sees };
        }

    module _ (p : Known E D) (is : party v ≡ PassOf p) where
      -- what the rule knows of the pass
      pub knows_pass : KnowsPass caller_of number_of entries_of log count owner id p
      knows_pass = subst (Knows caller_of number_of entries_of log count owner id) is (h.knows id v at)

      -- one more entry of the pass
      pub passes_entry : (x : E) (w : V) → caller_of x ≡ p.number → Legal (log ++ x ∷ []) → party w ≡ PassOf (with_entry p log x) → Passes party Legal caller_of number_of entries_of (log ++ x ∷ []) count owner (set views id w)
      passes_entry x w own legal becomes =
          let k = knows_pass in
          let seat : owner (caller_of x) ≡ Some id = ap owner own ∙ k.owned in
          let within : caller_of x ≤ count = subst (λ (z : ℕ). z ≤ count) (sym own) k.within in record {
            legal = legal;
            callers = (CallersWithin-more caller_of count log x).1 (h.callers, within);
            knows = seats_stay (λ j d. Knows caller_of number_of entries_of (log ++ x ∷ []) count owner j (party d)) views id w
                (subst (Knows caller_of number_of entries_of (log ++ x ∷ []) count owner id) (sym becomes) (own_knows caller_of number_of entries_of log count owner x id seat p own k))
                (λ j d apart there. other_knows caller_of number_of entries_of log count owner x id seat j (party d) apart (h.knows j d there));
            whole = whole_here (log ++ x ∷ []) views id v w at (subst (SeesAll (log ++ x ∷ [])) (sym becomes) (inl refl));
          }

      -- the pass sees all
      pub passes_all : (w : V) → party w ≡ PassOf (with_all p log) → Passes party Legal caller_of number_of entries_of log count owner (set views id w)
      passes_all w becomes = let k = knows_pass in record {
        legal = h.legal;
        callers = h.callers;
        knows = seats_stay (λ j d. Knows caller_of number_of entries_of log count owner j (party d)) views id w
            (subst (Knows caller_of number_of entries_of log count owner id) (sym becomes) record {
              owned = k.owned;
              within = k.within;
              prefix = prefix_self log;
              all = k.all;
              own = k.all;
              beside = tt;
              root = λ z. let r = k.root z in record { given = r.given; ended = all_map _ _ p.ended (λ d f. let g = f.0 in (f.0, g.all)) r.ended; once = r.once };
            })
            (λ j d _ there. h.knows j d there);
        whole = whole_here log views id v w at (subst (SeesAll log) (sym becomes) (inl refl));
      }

      -- the root gives the next number to a new pass
      pub passes_given : (w n : V) → p.number ≡ 0 → party w ≡ PassOf (with_given p) → party n ≡ PassOf (new_pass p)
          → Passes party Legal caller_of number_of entries_of log (count + 1) (owner_given owner (count + 1) (length (set views id w))) (set views id w ++ n ∷ [])
      passes_given w n zero_is becomes newcomer =
          let k = knows_pass in
          let r = k.root zero_is in
          let last : ℕ = length (set views id w) in
          let owner' : ℕ → Option ℕ = owner_given owner (count + 1) last in
          let root : owner 0 ≡ Some id = ap owner (sym zero_is) ∙ k.owned in
          let whole = whole_set log views id v w at (λ s. subst (SeesAll log) (sym becomes) (subst (SeesAll log) is s)) h.whole in record {
            legal = h.legal;
            callers = CallersWithin-weaken caller_of count (count + 1) log (omega arith) h.callers;
            knows = seats_split (λ j d. Knows caller_of number_of entries_of log (count + 1) owner' j (party d)) views id w n
                (subst (Knows caller_of number_of entries_of log (count + 1) owner' id) (sym becomes) (giver_knows caller_of number_of entries_of log count owner last id p k))
                (subst (Knows caller_of number_of entries_of log (count + 1) owner' last) (sym newcomer) (new_knows caller_of number_of entries_of log count owner last id p h.callers k r.given))
                (λ j d apart there. other_given caller_of number_of entries_of log count owner last id j (party d) root apart (h.knows j d there));
            whole = record { seat = whole.seat; view = whole.view; there = longer_there (set views id w) n whole.seat whole.view whole.there; sees = whole.sees };
          }

      -- a view at another seat is kept beside the pass, and spent
      module _ (other : ℕ) (e w s : V) (apart : other ≢ id) (there : get_elem? views other ≡ some e) (alone : p.beside ≡ NoneKept) (spent : party s ≡ NoParty) where
        -- the pass has seen all where it was the pass, and it or what is kept has where it was the other
        whole_kept : (k : Kept E) → party w ≡ PassOf (with_kept p k) → (SeesAll log (party e) → KeptSeesAll log k) → IsSeenWhole party log (set (set views id w) other s)
        whole_kept k becomes its = let o = h.whole in
            let here : get_elem? (set (set views id w) other s) id ≡ some w = set_other (set views id w) other id s (λ z. apart (sym z)) ∙ set_own views id w v at in
            dite (ℕ_discrete o.seat other)
            (λ same. let view_is : some o.view ≡ some e = sym o.there ∙ (ap (get_elem? views) same ∙ there) in record {
              seat = id;
              view = w;
              there = here;
              sees = subst (SeesAll log) (sym becomes) (inr (its (subst (λ (x : V). SeesAll log (party x)) (some-injective o.view e view_is) o.sees)));
            })
            (λ far. dite (ℕ_discrete o.seat id)
            (λ mine. let view_is : some o.view ≡ some v = sym o.there ∙ (ap (get_elem? views) mine ∙ at) in
            let sees : SeesAll log (PassOf p) = subst (SeesAll log) is (subst (λ (x : V). SeesAll log (party x)) (some-injective o.view v view_is) o.sees) in record {
              seat = id;
              view = w;
              there = here;
              sees = subst (SeesAll log) (sym becomes) (inl (⊎_elim (λ (z : p.seen ≡ log). z) (λ (z : KeptSeesAll log p.beside). absurd (subst (KeptSeesAll log) alone z)) sees));
            })
            (λ off. record { seat = o.seat; view = o.view; there = set_other (set views id w) other o.seat s far ∙ (set_other views id o.seat w off ∙ o.there); sees = o.sees }))

        -- a pass is kept beside the root, and its number is gone
        pub passes_keep : (q : Known E D) → party e ≡ PassOf q → q.beside ≡ NoneKept → p.number ≡ 0 → party w ≡ PassOf (with_kept p (PassKept q.number q.seen q.mine))
            → Passes party Legal caller_of number_of entries_of log count (owner_gone owner q.number) (set (set views id w) other s)
        passes_keep q too empty zero_is becomes =
            let k = knows_pass in
            let l : KnowsPass caller_of number_of entries_of log count owner other q = subst (Knows caller_of number_of entries_of log count owner other) too (h.knows other e there) in
            let owner' : ℕ → Option ℕ = owner_gone owner q.number in
            let ne : p.number ≢ q.number = λ z. let bad : Some id ≡ Some other = sym k.owned ∙ (ap owner z ∙ l.owned) in let eq : id ≡ other = cc (bad) in apart (sym eq) in
            let r = k.root zero_is in
            let positive : 1 ≤ q.number = (let z : p.number ≡ 0 = zero_is in let n : p.number ≢ q.number = ne in omega arith) in record {
              legal = h.legal;
              callers = h.callers;
              knows = seats_join (λ j d. Knows caller_of number_of entries_of log count owner' j (party d)) views id other w s
                  (subst (Knows caller_of number_of entries_of log count owner' id) (sym becomes) record {
                    owned = kept_owner caller_of number_of entries_of log count owner q.number p.number ne ∙ k.owned;
                    within = k.within;
                    prefix = k.prefix;
                    all = k.all;
                    own = k.own;
                    beside = (
                      record { free = ap (λ (b : Bool). if b then None else owner q.number) (eq-eqb q.number q.number refl); from_one = positive; within = l.within; all = l.all },
                      l.prefix,
                      l.own,
                      all_map _ _ p.ended (λ d f z. let g = f.0 in let bad : Some other ≡ None = sym l.owned ∙ (ap owner (sym z) ∙ g.free) in cc) r.ended,
                    );
                    root = λ _. record { given = r.given; ended = ended_spent caller_of number_of entries_of log count owner q.number p.seen p.ended r.ended; once = r.once };
                  })
                  (subst (Knows caller_of number_of entries_of log count owner' other) (sym spent) tt)
                  (λ j d _ far at'. other_spent caller_of number_of entries_of log count owner q.number other j (party d) l.owned far (h.knows j d at'));
              whole = whole_kept (PassKept q.number q.seen q.mine) becomes (λ sees. let z : SeesAll log (PassOf q) = subst (SeesAll log) too sees in ⊎_elim (λ (a : q.seen ≡ log). a) (λ (a : KeptSeesAll log q.beside). absurd (subst (KeptSeesAll log) empty a)) z);
            }

        -- a note is kept beside the pass
        pub passes_hear : (seen : List E) → party e ≡ NoteOf seen → party w ≡ PassOf (with_kept p (NoteKept seen)) → Passes party Legal caller_of number_of entries_of log count owner (set (set views id w) other s)
        passes_hear seen too becomes =
            let k = knows_pass in
            let l : IsPrefix seen log = subst (Knows caller_of number_of entries_of log count owner other) too (h.knows other e there) in record {
              legal = h.legal;
              callers = h.callers;
              knows = seats_join (λ j d. Knows caller_of number_of entries_of log count owner j (party d)) views id other w s
                  (subst (Knows caller_of number_of entries_of log count owner id) (sym becomes) record {
                    owned = k.owned;
                    within = k.within;
                    prefix = k.prefix;
                    all = k.all;
                    own = k.own;
                    beside = l;
                    root = λ z. let r = k.root z in record { given = r.given; ended = r.ended; once = r.once };
                  })
                  (subst (Knows caller_of number_of entries_of log count owner other) (sym spent) tt)
                  (λ j d _ far at'. h.knows j d at');
              whole = whole_kept (NoteKept seen) becomes (λ sees. subst (SeesAll log) too sees);
            }

      -- what is kept beside the pass is compared with what it has seen
      module _ (seen : List E) (prefix : IsPrefix seen log) where
        old_within : IsPrefix p.seen (longer p.seen seen)
        old_within = let k = knows_pass in longer_left p.seen seen log k.prefix prefix

        its_within : IsPrefix seen (longer p.seen seen)
        its_within = let k = knows_pass in longer_right p.seen seen log k.prefix prefix

        all_within : IsPrefix (longer p.seen seen) log
        all_within = let k = knows_pass in longer_within p.seen seen log k.prefix prefix

        own_within : made_by caller_of (longer p.seen seen) p.number ≡ p.mine
        own_within = let k = knows_pass in made_by-between caller_of p.seen (longer p.seen seen) log p.mine p.number old_within all_within k.own k.all

        ended_within : (r : KnowsRoot caller_of number_of entries_of log count owner p) → AllByRecursion (KnowsEnded caller_of number_of entries_of log count owner (longer p.seen seen)) p.ended
        ended_within r = all_map _ _ p.ended (λ d f. let g = f.0 in (f.0, made_by-between caller_of p.seen (longer p.seen seen) log (entries_of d) (number_of d) old_within all_within f.1 g.all)) r.ended

        sees_within : (KeptSeesAll log p.beside → seen ≡ log) → SeesAll log (PassOf p) → longer p.seen seen ≡ log
        sees_within its sees = ⊎_elim (λ (z : p.seen ≡ log). whole_between p.seen (longer p.seen seen) log old_within all_within z) (λ (z : KeptSeesAll log p.beside). whole_between seen (longer p.seen seen) log its_within all_within (its z)) sees

      pub passes_heard : (seen : List E) (w : V) → p.beside ≡ NoteKept seen → party w ≡ PassOf (with_note p seen)
          → Passes party Legal caller_of number_of entries_of log count owner (set views id w) × IsPrefix p.seen (longer p.seen seen) × IsPrefix seen (longer p.seen seen)
      passes_heard seen w held becomes =
          let k = knows_pass in
          let prefix : IsPrefix seen log = subst (KnowsKept caller_of number_of entries_of log count owner p.ended) held k.beside in (
            record {
              legal = h.legal;
              callers = h.callers;
              knows = seats_stay (λ j d. Knows caller_of number_of entries_of log count owner j (party d)) views id w
                  (subst (Knows caller_of number_of entries_of log count owner id) (sym becomes) record {
                    owned = k.owned;
                    within = k.within;
                    prefix = all_within seen prefix;
                    all = k.all;
                    own = own_within seen prefix;
                    beside = tt;
                    root = λ z. let r = k.root z in record { given = r.given; ended = ended_within seen prefix r; once = r.once };
                  })
                  (λ j d _ there. h.knows j d there);
              whole = whole_set log views id v w at (λ s. subst (SeesAll log) (sym becomes) (inl (sees_within seen prefix (λ z. subst (KeptSeesAll log) held z) (subst (SeesAll log) is s)))) h.whole;
            },
            old_within seen prefix,
            its_within seen prefix,
          )

      -- the root has then ended the pass
      pub passes_end : (n : ℕ) (seen mine : List E) (d : D) (w : V) → p.beside ≡ PassKept n seen mine → number_of d ≡ n → entries_of d ≡ mine → party w ≡ PassOf (with_ended p seen d)
          → Passes party Legal caller_of number_of entries_of log count owner (set views id w) × IsPrefix p.seen (longer p.seen seen) × IsPrefix seen (longer p.seen seen)
      passes_end n seen mine d w held number_is entries_is becomes =
          let k = knows_pass in
          let f : KnowsKept caller_of number_of entries_of log count owner p.ended (PassKept n seen mine) = subst (KnowsKept caller_of number_of entries_of log count owner p.ended) held k.beside in
          let gone : Gone caller_of number_of entries_of log count owner (number_of d) (entries_of d) = subst (λ (x : ℕ × List E). Gone caller_of number_of entries_of log count owner x.0 x.1) (λ i. (sym number_is i, sym entries_is i)) f.0 in
          let all : made_by caller_of (longer p.seen seen) n ≡ mine = (let g = f.0 in made_by-between caller_of seen (longer p.seen seen) log mine n (its_within seen f.1) (all_within seen f.1) f.2 g.all) in
          let last : made_by caller_of (longer p.seen seen) (number_of d) ≡ entries_of d = ap (made_by caller_of (longer p.seen seen)) number_is ∙ (all ∙ sym entries_is) in (
            record {
              legal = h.legal;
              callers = h.callers;
              knows = seats_stay (λ j d. Knows caller_of number_of entries_of log count owner j (party d)) views id w
                  (subst (Knows caller_of number_of entries_of log count owner id) (sym becomes) record {
                    owned = k.owned;
                    within = k.within;
                    prefix = all_within seen f.1;
                    all = k.all;
                    own = own_within seen f.1;
                    beside = tt;
                    root = λ z. let r = k.root z in record {
                      given = r.given;
                      ended = all_append _ p.ended (d ∷ []) (ended_within seen f.1 r) ((gone, last), tt);
                      once = (Each-more _ p.ended d).1 (r.once, subst (λ (x : ℕ). AllByRecursion (λ b. number_of b ≢ x) p.ended) (sym number_is) f.3);
                    };
                  })
                  (λ j d _ there. h.knows j d there);
              whole = whole_set log views id v w at (λ s. subst (SeesAll log) (sym becomes) (inl (sees_within seen f.1 (λ z. subst (KeptSeesAll log) held z) (subst (SeesAll log) is s)))) h.whole;
            },
            old_within seen f.1,
            its_within seen f.1,
          )

  -- the first view, of a root that has given no number
  pub passes_open : (v : V) → Legal [] → party v ≡ PassOf (record { number = 0; seen = []; mine = []; given = 0; ended = []; beside = NoneKept })
      → Passes party Legal caller_of number_of entries_of [] 0 (λ n. if n == 0 then Some 0 else None) (v ∷ [])
  passes_open v legal is =
      let owner : ℕ → Option ℕ = λ n. if n == 0 then Some 0 else None in record {
        legal = legal;
        callers = CallersWithin-none caller_of 0;
        knows = λ j d there. let t = one_view v j d there in subst (λ (x : ℕ × V). Knows caller_of number_of entries_of [] 0 owner x.0 (party x.1)) (λ i. (sym t.0 i, t.1 i))
            (subst (Knows caller_of number_of entries_of [] 0 owner 0) (sym is) record {
              owned = refl;
              within = omega arith;
              prefix = prefix_self [];
              all = made_by-none caller_of 0;
              own = made_by-none caller_of 0;
              beside = tt;
              root = λ _. record { given = refl; ended = tt; once = Each-none _ };
            });
        whole = record { seat = 0; view = v; there = refl; sees = subst (SeesAll []) (sym is) (inl refl) };
      }
