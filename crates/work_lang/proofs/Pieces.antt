-- Lines that are written piece by piece, for the proofs of printers. A piece is some of the lines.
use Rattle.std.proofs.Common.{◌≡◌, ℕ, ◌+◌, ◌≤◌, Bool, true, List, [], ◌∷◌, ◌++◌, length, take, refl, sym, subst, ap, ◌∙◌, arith, append_assoc, length-append}
use Rattle.std.specs.Prelude.{Result, Ok, Err, OnOk, OnErr, IsErrAnd}
use Rattle.std.proofs.lemmas.List.{append-nil, take-append-le}
use Rattle.std.proofs.Math.Seq.{take-append-add}
use Rattle.std.specs.declared.option.Option.{Option}
use Rattle.std.specs.Io.KnownBytes.{Appends, Keeps}
use Rattle.work_lang.specs.Faults.{HasCause}
use Rattle.work_lang.specs.Counts.{raised}
use Rattle.work_lang.specs.Streams.{text_of, AppendsFront, AppendsFirst, Writes, WroteUpTo}
use Rattle.work_lang.proofs.KnownSteps.{Appends-nothing, Appends-twice, Appends-kept}

pub text_of-append : (a b : List (List ℕ)) → text_of (a ++ b) ≡ text_of a ++ text_of b
text_of-append [] b = refl
text_of-append (line ∷ a) b = ap (λ (l : List ℕ). line ++ l) (text_of-append a b) ∙ sym (append_assoc line (text_of a) (text_of b))

-- the text of all lines, where those before a piece are known
text_of-split : (lines done rest piece left : List (List ℕ)) → lines ≡ done ++ rest → rest ≡ piece ++ left → text_of lines ≡ text_of done ++ (text_of piece ++ text_of left)
text_of-split lines done rest piece left split parts =
    ap text_of (split ∙ ap (λ (l : List (List ℕ)). done ++ l) parts) ∙ text_of-append done (piece ++ left) ∙ ap (λ (l : List ℕ). text_of done ++ l) (text_of-append piece left)

front_of : {A : Type 0} (done piece left : List A) (n : ℕ) → n ≤ length piece → done ++ take n piece ≡ take (length done + n) (done ++ (piece ++ left))
front_of {A = A} done piece left n within = sym (take-append-add done (piece ++ left) n ∙ ap (λ (l : List A). done ++ l) (take-append-le n piece left within))

-- the first lines of a piece, behind those that were written before it
first_lines : (lines done rest piece left : List (List ℕ)) (n : ℕ) → n ≤ length piece → lines ≡ done ++ rest → rest ≡ piece ++ left → text_of done ++ text_of (take n piece) ≡ text_of (take (length done + n) lines)
first_lines lines done rest piece left n within split parts =
    sym (text_of-append done (take n piece))
    ∙ ap text_of (front_of done piece left n within ∙ ap (take (length done + n)) (sym (split ∙ ap (λ (l : List (List ℕ)). done ++ l) parts)))

-- a count that is raised twice
raised-twice : (count a b : ℕ) → raised (raised count a) b ≡ raised count (a + b)
raised-twice count a b = omega arith

raised-none : (count : ℕ) → raised count 0 ≡ count
raised-none count = omega arith

-- the first lines of a piece were taken, behind all that were before it
first_behind : (old mid new : Option (List ℕ)) (tries between now : ℕ) (lines done rest piece left : List (List ℕ)) → lines ≡ done ++ rest → rest ≡ piece ++ left → Appends old mid (text_of done) → between ≡ raised tries (length done) → AppendsFirst mid new between now piece → AppendsFirst old new tries now lines
first_behind old mid new tries between now lines done rest piece left split parts before once first = (
  length done + first.0,
  omega (arith, first.1, ap length split, ap length parts, length-append done rest, length-append piece left),
  subst (λ (l : List ℕ). Appends old new l) (first_lines lines done rest piece left first.0 (omega (arith, first.1)) split parts)
      (Appends-twice old mid new (text_of done) (text_of (take first.0 piece)) before first.2),
  first.3 ∙ ap (λ (n : ℕ). raised n (first.0 + 1)) once ∙ raised-twice tries (length done) (first.0 + 1) ∙ ap (raised tries) (omega arith),
)

-- a line that was handed over as one piece
pub line_written : {S E : Type 0} {taken : S → Option (List ℕ)} {faults tries : S → ℕ} {whole : S → Bool} {old new : S} (result : Result (Unit {0}) E) (line : List ℕ) → OnOk result (Appends (taken old) (taken new) line) → OnErr result (AppendsFront (taken old) (taken new) line)
    → (whole old ≡ true → OnErr result (Keeps (taken old) (taken new))) → (whole old ≡ true → tries new ≡ raised (tries old) 1) → whole new ≡ whole old → HasCause (faults old) (faults new) result → Writes taken faults tries whole old new result (line ∷ [])
line_written {taken = taken} {old = old} {new = new} (Ok u) line ok err none once kept cause = record {
  ok = subst (λ (l : List ℕ). Appends (taken old) (taken new) l) (sym (append-nil line)) ok;
  err = tt;
  once = once;
  first = tt;
  kept = kept;
  cause = cause;
}
line_written {taken = taken} {old = old} {new = new} (Err e) line ok err none once kept cause = record {
  ok = tt;
  err = subst (λ (l : List ℕ). AppendsFront (taken old) (taken new) l) (sym (append-nil line)) err;
  once = tt;
  first = λ is. (0, omega arith, Appends-kept (taken old) (taken old) (taken new) [] (Appends-nothing (taken old)) (none is), once is);
  kept = kept;
  cause = cause;
}

-- nothing is written yet
pub wrote_none : {S : Type 0} (taken : S → Option (List ℕ)) (faults tries : S → ℕ) (whole : S → Bool) (old : S) (lines : List (List ℕ)) → WroteUpTo taken faults tries whole old old lines lines
wrote_none taken faults tries whole old lines = record { done = []; split = refl; told = Appends-nothing (taken old); once = λ _. sym (raised-none (tries old)); kept = refl; same = refl }

-- one more piece is written
pub wrote_more : {S E : Type 0} {taken : S → Option (List ℕ)} {faults tries : S → ℕ} {whole : S → Bool} {old mid new : S} {lines rest piece left : List (List ℕ)} {result : Result (Unit {0}) E} {u : Unit {0}} → rest ≡ piece ++ left → result ≡ Ok u → WroteUpTo taken faults tries whole old mid lines rest → Writes taken faults tries whole mid new result piece → WroteUpTo taken faults tries whole old new lines left
wrote_more {taken = taken} {faults = faults} {tries = tries} {whole = whole} {old = old} {mid = mid} {new = new} {piece = piece} {left = left} parts is wrote writes =
    let ok = subst (λ x. Writes taken faults tries whole mid new x piece) is writes in
    record {
      done = wrote.done ++ piece;
      split = wrote.split ∙ ap (λ (l : List (List ℕ)). wrote.done ++ l) parts ∙ sym (append_assoc wrote.done piece left);
      told = subst (λ (l : List ℕ). Appends (taken old) (taken new) l) (sym (text_of-append wrote.done piece)) (Appends-twice _ _ _ (text_of wrote.done) (text_of piece) wrote.told ok.ok);
      once = λ is. ok.once (wrote.kept ∙ is) ∙ ap (λ (n : ℕ). raised n (length piece)) (wrote.once is) ∙ raised-twice (tries old) (length wrote.done) (length piece)
          ∙ ap (raised (tries old)) (sym (length-append wrote.done piece));
      kept = ok.kept ∙ wrote.kept;
      same = omega (arith, wrote.same, ok.cause.same);
    }

-- a piece failed
pub wrote_stops : {S E : Type 0} {taken : S → Option (List ℕ)} {faults tries : S → ℕ} {whole : S → Bool} {old mid new : S} {lines rest piece : List (List ℕ)} (left : List (List ℕ)) {result : Result (Unit {0}) E} {e : E} → rest ≡ piece ++ left → result ≡ Err e → WroteUpTo taken faults tries whole old mid lines rest → Writes taken faults tries whole mid new result piece → Writes taken faults tries whole old new (Err e) lines
wrote_stops {taken = taken} {faults = faults} {tries = tries} {whole = whole} {old = old} {mid = mid} {new = new} {lines = lines} {rest = rest} {piece = piece} left parts is wrote writes =
    let err = subst (λ x. Writes taken faults tries whole mid new x piece) is writes in
    let front = err.err in
    let done : List ℕ = text_of wrote.done in
    let n : ℕ = length done + front.0 in
    let text = text_of-split lines wrote.done rest piece left wrote.split parts in
    record {
      ok = tt;
      err = (
        n,
        omega (arith, front.1, ap length text, length-append done (text_of piece ++ text_of left), length-append (text_of piece) (text_of left)),
        subst (λ (l : List ℕ). Appends (taken old) (taken new) l) (front_of done (text_of piece) (text_of left) front.0 (omega (arith, front.1)) ∙ ap (take n) (sym text)) (Appends-twice _ _ _ done (take front.0 (text_of piece)) wrote.told front.2),
      );
      once = tt;
      first = λ is. first_behind _ _ _ (tries old) (tries mid) (tries new) lines wrote.done rest piece left wrote.split parts wrote.told (wrote.once is) (err.first (wrote.kept ∙ is));
      kept = err.kept ∙ wrote.kept;
      cause = record { later = omega (arith, wrote.same, err.cause.later); failed = omega (arith, wrote.same, err.cause.failed); same = tt };
    }

-- no line is left
pub wrote_all : {S E : Type 0} {taken : S → Option (List ℕ)} {faults tries : S → ℕ} {whole : S → Bool} {old new : S} {lines rest : List (List ℕ)} (u : Unit {0}) → rest ≡ [] → WroteUpTo taken faults tries whole old new lines rest → Writes {E = E} taken faults tries whole old new (Ok u) lines
wrote_all {taken = taken} {tries = tries} {old = old} {new = new} {lines = lines} {rest = rest} u none wrote = record {
  ok = subst (λ (l : List (List ℕ)). Appends (taken old) (taken new) (text_of l)) (sym (wrote.split ∙ ap (λ (l : List (List ℕ)). wrote.done ++ l) none ∙ append-nil wrote.done)) wrote.told;
  err = tt;
  once = λ is. wrote.once is ∙ ap (λ (l : List (List ℕ)). raised (tries old) (length l)) (sym (wrote.split ∙ ap (λ (l : List (List ℕ)). wrote.done ++ l) none ∙ append-nil wrote.done));
  first = tt;
  kept = wrote.kept;
  cause = record { later = omega (arith, wrote.same); failed = tt; same = wrote.same };
}

-- the last piece, whose answer is that of all
pub wrote_last : {S E : Type 0} {taken : S → Option (List ℕ)} {faults tries : S → ℕ} {whole : S → Bool} {old mid new : S} {lines rest piece : List (List ℕ)} {result : Result (Unit {0}) E} → rest ≡ piece → WroteUpTo taken faults tries whole old mid lines rest → Writes taken faults tries whole mid new result piece → Writes taken faults tries whole old new result lines
wrote_last {piece = piece} {result = Ok u} parts wrote writes = wrote_all u refl (wrote_more (parts ∙ sym (append-nil piece)) refl wrote writes)
wrote_last {piece = piece} {result = Err e} parts wrote writes = wrote_stops [] (parts ∙ sym (append-nil piece)) refl wrote writes

-- the first piece is written
pub wrote_first : {S E : Type 0} {taken : S → Option (List ℕ)} {faults tries : S → ℕ} {whole : S → Bool} {old new : S} {lines piece left : List (List ℕ)} {result : Result (Unit {0}) E} {u : Unit {0}} → lines ≡ piece ++ left → result ≡ Ok u → Writes taken faults tries whole old new result piece → WroteUpTo taken faults tries whole old new lines left
wrote_first {taken = taken} {faults = faults} {tries = tries} {whole = whole} {old = old} {lines = lines} parts is writes = wrote_more parts is (wrote_none taken faults tries whole old lines) writes

-- the first of two pieces failed
pub writes_fail : {S E : Type 0} {taken : S → Option (List ℕ)} {faults tries : S → ℕ} {whole : S → Bool} {old new : S} {lines piece : List (List ℕ)} (left : List (List ℕ)) {result : Result (Unit {0}) E} {e : E} → lines ≡ piece ++ left → result ≡ Err e → Writes taken faults tries whole old new result piece → Writes taken faults tries whole old new (Err e) lines
writes_fail {taken = taken} {faults = faults} {tries = tries} {whole = whole} {old = old} {lines = lines} left parts is writes = wrote_stops left parts is (wrote_none taken faults tries whole old lines) writes

-- the first of two pieces was taken: the answer is that of the second
pub writes_then : {S E : Type 0} {taken : S → Option (List ℕ)} {faults tries : S → ℕ} {whole : S → Bool} {old mid new : S} {lines piece left : List (List ℕ)} {first result : Result (Unit {0}) E} {u : Unit {0}} → lines ≡ piece ++ left → first ≡ Ok u → Writes taken faults tries whole old mid first piece → Writes taken faults tries whole mid new result left → Writes taken faults tries whole old new result lines
writes_then parts is writes next = wrote_last refl (wrote_first parts is writes) next

-- the same lines, written otherwise
pub writes_same : {S E : Type 0} {taken : S → Option (List ℕ)} {faults tries : S → ℕ} {whole : S → Bool} {old new : S} {lines piece : List (List ℕ)} {result : Result (Unit {0}) E} → lines ≡ piece → Writes taken faults tries whole old new result piece → Writes taken faults tries whole old new result lines
writes_same {taken = taken} {faults = faults} {tries = tries} {whole = whole} {old = old} {new = new} {result = result} same writes = subst (λ (l : List (List ℕ)). Writes taken faults tries whole old new result l) (sym same) writes

-- the exit of a `?`: what it returns is the error that it met
pub writes_exit : {S E : Type 0} {taken : S → Option (List ℕ)} {faults tries : S → ℕ} {whole : S → Bool} {old new : S} {lines : List (List ℕ)} {e : E} (result : Result (Unit {0}) E) → IsErrAnd result (λ met. met ≡ e) → Writes taken faults tries whole old new (Err e) lines → Writes taken faults tries whole old new result lines
writes_exit (Ok u) met writes = absurd met
writes_exit {taken = taken} {faults = faults} {tries = tries} {whole = whole} {old = old} {new = new} {lines = lines} (Err d) met writes = subst (λ x. Writes taken faults tries whole old new (Err x) lines) (sym met) writes
