-- Known bytes over one read or write after another.
use Rattle.std.proofs.Common.{◌≡◌, ℕ, ◌<◌, ◌≤◌, List, [], ◌∷◌, ◌++◌, length, take, drop, sym, subst, ◌∙◌, ap, arith, append_assoc, length-append, refl}
use Rattle.std.proofs.lemmas.List.{append-nil, take_all, drop_all, take_at, drop_at, take-append-drop}
use Rattle.std.specs.Prelude.{Some, None}
use Rattle.std.specs.declared.option.Option.{Option}
use Rattle.std.specs.Io.KnownBytes.{Appends, Consumes, Keeps, IsAtEnd}
use Rattle.work_lang.specs.Streams.{most_read, ReadsAll, LosesFront, AppendsFront}

pub Appends-nothing : (old : Option (List ℕ)) → Appends old old []
Appends-nothing None = tt
Appends-nothing (Some xs) = sym (append-nil xs)

pub Appends-twice : (old mid new : Option (List ℕ)) (a b : List ℕ) → Appends old mid a → Appends mid new b → Appends old new (a ++ b)
Appends-twice None mid new a b first next = tt
Appends-twice (Some xs) None new a b first next = absurd first
Appends-twice (Some xs) (Some ys) None a b first next = absurd next
Appends-twice (Some xs) (Some ys) (Some zs) a b first next = next ∙ ap (λ (l : List ℕ). l ++ b) first ∙ append_assoc xs a b

pub Appends-kept : (old mid new : Option (List ℕ)) (a : List ℕ) → Appends old mid a → Keeps mid new → Appends old new a
Appends-kept None mid new a first kept = tt
Appends-kept (Some xs) None new a first kept = absurd first
Appends-kept (Some xs) (Some ys) None a first kept = absurd kept
Appends-kept (Some xs) (Some ys) (Some zs) a first kept = kept ∙ first

pub Keeps-same : (old : Option (List ℕ)) → Keeps old old
Keeps-same None = tt
Keeps-same (Some xs) = refl

pub Keeps-twice : (old mid new : Option (List ℕ)) → Keeps old mid → Keeps mid new → Keeps old new
Keeps-twice None mid new first next = tt
Keeps-twice (Some xs) None new first next = absurd first
Keeps-twice (Some xs) (Some ys) None first next = absurd next
Keeps-twice (Some xs) (Some ys) (Some zs) first next = next ∙ first

pub Consumes-twice : (old mid new : Option (List ℕ)) (a b : List ℕ) → Consumes old mid a → Consumes mid new b → Consumes old new (a ++ b)
Consumes-twice None mid new a b first next = tt
Consumes-twice (Some xs) None new a b first next = absurd first
Consumes-twice (Some xs) (Some ys) None a b first next = absurd next
Consumes-twice (Some xs) (Some ys) (Some zs) a b first next = first ∙ ap (λ (l : List ℕ). a ++ l) next ∙ sym (append_assoc a b zs)

pub Consumes-kept : (old mid new : Option (List ℕ)) (a : List ℕ) → Consumes old mid a → Keeps mid new → Consumes old new a
Consumes-kept None mid new a first kept = tt
Consumes-kept (Some xs) None new a first kept = absurd first
Consumes-kept (Some xs) (Some ys) None a first kept = absurd kept
Consumes-kept (Some xs) (Some ys) (Some zs) a first kept = first ∙ ap (λ (l : List ℕ). a ++ l) (sym kept)

-- bytes of which nothing is left at the end were all read
pub ReadsAll-at_end : (old new : Option (List ℕ)) (read : List ℕ) → length read ≤ most_read → Consumes old new read → IsAtEnd new → ReadsAll (λ o. o) old new read
ReadsAll-at_end None new read short consumed end = tt
ReadsAll-at_end (Some xs) None read short consumed end = absurd consumed
ReadsAll-at_end (Some xs) (Some ys) read short consumed end =
    let whole : xs ≡ read = consumed ∙ ap (λ (l : List ℕ). read ++ l) end ∙ append-nil read in (
      sym (take_all most_read read short) ∙ ap (take most_read) (sym whole),
      ap Some (end ∙ sym (ap (drop most_read) whole ∙ drop_all most_read read short)),
    )

-- as many bytes as may be read were read
pub ReadsAll-full : (old new : Option (List ℕ)) (read : List ℕ) → length read ≡ most_read → Consumes old new read → ReadsAll (λ o. o) old new read
ReadsAll-full None new read full consumed = tt
ReadsAll-full (Some xs) None read full consumed = absurd consumed
ReadsAll-full (Some xs) (Some ys) read full consumed =
    (sym (ap (take most_read) consumed ∙ take_at read ys most_read full), ap Some (sym (ap (drop most_read) consumed ∙ drop_at read ys most_read full)))

pub LosesFront-read : (old new : Option (List ℕ)) (read : List ℕ) → length read ≤ most_read → Consumes old new read → LosesFront (λ o. o) old new
LosesFront-read None new read short consumed = tt
LosesFront-read (Some xs) None read short consumed = absurd consumed
LosesFront-read (Some xs) (Some ys) read short consumed =
    let n : ℕ = length read in (n, short, ap Some (sym (ap (drop n) consumed ∙ drop_at read ys n refl)))

-- a read that gave nothing though there was room
pub Consumes-none : (old mid new : Option (List ℕ)) (read buffer : List ℕ) (n : ℕ) → n ≡ 0 → Consumes old mid read → Consumes mid new (take n buffer) → Consumes old new read
Consumes-none old mid new read buffer n none before last =
    let nothing : Consumes mid new [] = subst (λ (k : ℕ). Consumes mid new (take k buffer)) none last in
    subst (λ (l : List ℕ). Consumes old new l) (append-nil read) (Consumes-twice old mid new read [] before nothing)

-- of a piece that is written bit by bit all but the rest was taken
pub record TookFront (old new : Option (List ℕ)) (piece rest : List ℕ) : Type 0 where
  pub front : List ℕ
  pub split : piece ≡ front ++ rest
  pub told : Appends old new front

pub TookFront-none : (old : Option (List ℕ)) (piece : List ℕ) → TookFront old old piece piece
TookFront-none old piece = record { front = []; split = refl; told = Appends-nothing old }

pub TookFront-more : {old mid new : Option (List ℕ)} {piece rest : List ℕ} (n : ℕ) → TookFront old mid piece rest → Appends mid new (take n rest) → TookFront old new piece (drop n rest)
TookFront-more {old = old} {mid = mid} {new = new} {piece = piece} {rest = rest} n took more = record {
  front = took.front ++ take n rest;
  split = took.split ∙ ap (λ (l : List ℕ). took.front ++ l) (sym (take-append-drop n rest)) ∙ sym (append_assoc took.front (take n rest) (drop n rest));
  told = Appends-twice old mid new took.front (take n rest) took.told more;
}

-- all of it was taken
pub TookFront-all : {old new : Option (List ℕ)} {piece rest : List ℕ} → length rest ≡ 0 → TookFront old new piece rest → Appends old new piece
TookFront-all {old = old} {new = new} {rest = []} none took = subst (λ (l : List ℕ). Appends old new l) (sym (took.split ∙ append-nil took.front)) took.told
TookFront-all {rest = x ∷ rest} none took = absurd (omega arith)

-- a write failed before all of it was taken
pub TookFront-stops : {old mid : Option (List ℕ)} (new : Option (List ℕ)) {piece rest : List ℕ} → 0 < length rest → TookFront old mid piece rest → Keeps mid new → AppendsFront old new piece
TookFront-stops {old = old} {mid = mid} new {piece = piece} {rest = rest} some took kept =
    let n : ℕ = length took.front in (
      n,
      omega (arith, ap length took.split, length-append took.front rest),
      subst (λ (l : List ℕ). Appends old new l) (sym (ap (take n) took.split ∙ take_at took.front rest n refl)) (Appends-kept old mid new took.front took.told kept),
    )

-- the rest is no longer than the piece
pub length-rest : {old new : Option (List ℕ)} {piece rest : List ℕ} → TookFront old new piece rest → length rest ≤ length piece
length-rest {rest = rest} took = omega (arith, ap length took.split, length-append took.front rest)
