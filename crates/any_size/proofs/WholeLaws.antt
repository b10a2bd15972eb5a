-- No value is torn.
use Rattle.std.proofs.Common.{◌≡◌, ◌≢◌, ◌⊎◌, inl, inr, ⊎_elim, ℕ, ◌==◌, Bool, true, false, if◌then◌else◌, List, [], ◌∷◌, ◌++◌, refl, ap, sym, ◌∙◌, subst, append_assoc, Some, eq-eqb, ne_eqb}
use Rattle.std.specs.Str.{bytes_eq}
use Rattle.std.proofs.lemmas.List.{append-nil}
use mathlib.Core.Logic.{dite}
use native.Mathlib.Decide.{ℕ_discrete}
use Rattle.place_core.specs.Histories.{value_from}
use Rattle.place_core.proofs.EntryLists.{value_from-none, value_from-own, value_from-other}
use Rattle.any_size.specs.declared.call.BlockCall.{BlockCall}
use Rattle.any_size.specs.declared.call.BlockCall.TheVariants.{Load, Store, Exchange, CompareExchange}
use Rattle.any_size.specs.declared.call.BlockReply.{BlockReply}
use Rattle.any_size.specs.declared.call.BlockReply.TheVariants as reply
use Rattle.any_size.specs.declared.call.BlockEntry.{BlockEntry}
use Rattle.any_size.specs.Operations.{block_after, block_answer, does_write}
use Rattle.any_size.specs.Histories.{start_at, object_of, left_by, value_of, IsLawful}
use Rattle.any_size.specs.Laws.{bytes_in, put_in, IsWrittenBy, IsWhole, ValueIsWhole, ReplyIsWhole}

-- a call leaves the value or puts its operand
leaves : (call : BlockCall) (v : List ℕ) → (block_after call v ≡ v) ⊎ ((does_write call v ≡ true) × (put_in call ≡ Some (block_after call v)))
leaves Load v = inl refl
leaves (Store a) v = inr (refl, refl)
leaves (Exchange a) v = inr (refl, refl)
leaves (CompareExchange e n) v = go (bytes_eq v e)
  where
    go : (c : Bool) → ((if c then n else v) ≡ v) ⊎ ((c ≡ true) × (Some n ≡ Some (if c then n else v)))
    go true = inr (refl, refl)
    go false = inl refl

-- one entry more
whole_more : (starts : List (List ℕ)) (G : List BlockEntry) (x : BlockEntry) (o : ℕ) (v : List ℕ) → IsWhole starts G o v → IsWhole starts (G ++ x ∷ []) o v
whole_more starts G x o v h = ⊎_elim (λ e. inl e)
    (λ (w : IsWrittenBy starts G o v). inr record {
      before = w.before;
      entry = w.entry;
      rest = w.rest ++ x ∷ [];
      split = ap (λ (l : List BlockEntry). l ++ x ∷ []) w.split ∙ append_assoc w.before (w.entry ∷ w.rest) (x ∷ []);
      object = w.object;
      writes = w.writes;
      put = w.put;
    }) h

whole_step : (starts : List (List ℕ)) (G : List BlockEntry) (x : BlockEntry) (o : ℕ) → IsWhole starts G o (value_of starts G o) → IsWhole starts (G ++ x ∷ []) o (value_of starts (G ++ x ∷ []) o)
whole_step starts G x o h = dite (ℕ_discrete x.object o)
    (λ own. let v : List ℕ = value_of starts G o in
    let after : value_of starts (G ++ x ∷ []) o ≡ block_after x.call v = value_from-own object_of left_by o (start_at starts o) G x own in
    subst (IsWhole starts (G ++ x ∷ []) o) (sym after) (⊎_elim
    (λ (same : block_after x.call v ≡ v). subst (IsWhole starts (G ++ x ∷ []) o) (sym same) (whole_more starts G x o v h))
    (λ (t : (does_write x.call v ≡ true) × (put_in x.call ≡ Some (block_after x.call v))). inr record { before = G; entry = x; rest = []; split = refl; object = own; writes = t.0; put = t.1 })
    (leaves x.call v)))
    (λ other. subst (IsWhole starts (G ++ x ∷ []) o) (sym (value_from-other object_of left_by o (start_at starts o) G x other)) (whole_more starts G x o (value_of starts G o) h))

whole_on : (starts : List (List ℕ)) (o : ℕ) (G H : List BlockEntry) → IsWhole starts G o (value_of starts G o) → IsWhole starts (G ++ H) o (value_of starts (G ++ H) o)
whole_on starts o G [] h = subst (λ (l : List BlockEntry). IsWhole starts l o (value_of starts l o)) (sym (append-nil G)) h
whole_on starts o G (x ∷ H) h = subst (λ (l : List BlockEntry). IsWhole starts l o (value_of starts l o)) (append_assoc G (x ∷ []) H) (whole_on starts o (G ++ x ∷ []) H (whole_step starts G x o h))

pub value_is_whole : ValueIsWhole
value_is_whole starts G o = whole_on starts o [] G (inl (value_from-none object_of left_by o (start_at starts o)))

-- the bytes of a reply are the value
told : (call : BlockCall) (v w : List ℕ) → bytes_in (block_answer call v) ≡ Some w → w ≡ v
told Load v w e = cc (e)
told (Store a) v w e = absurd cc
told (Exchange a) v w e = cc (e)
told (CompareExchange x n) v w e = go (bytes_eq v x) e
  where
    go : (c : Bool) → bytes_in (if c then reply.Done v else reply.Failed v) ≡ Some w → w ≡ v
    go true e = cc (e)
    go false e = cc (e)

pub reply_is_whole : ReplyIsWhole
reply_is_whole starts G x v h e = subst (IsWhole starts G x.object) (sym (told x.call (value_of starts G x.object) v (ap bytes_in (sym h.reply) ∙ e))) (value_is_whole starts G x.object)
