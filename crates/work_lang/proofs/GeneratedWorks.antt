-- A generated workload is one: its objects are declared, its calls fit them, and the limits hold.
use Rattle.std.proofs.Common.{◌≡◌, ◌∙◌, inl, Bool, true, false, ℕ, zero, suc, ◌*◌, ◌/◌, ◌%◌, ◌<◌, ◌≤◌, List, [], ◌∷◌, map, length, refl, ap, arith}
use Rattle.std.specs.Prelude.{◌&&◌, None, nat_le}
use Rattle.std.specs.List.{AllByRecursion, sum_by}
use Rattle.std.proofs.lemmas.Bool.Decides.{nat_tests}
use Rattle.std.proofs.lemmas.List.Sums.{sum_by-cons}
use Rattle.rand_core.specs.Steps.{first_words}
use Rattle.rand_pcg.specs.Lcg.{Lcg}
use Rattle.rand_pcg.specs.Pcg.{pcg64}
use Rattle.op_table.specs.declared.order.Order.TheVariants.{SeqCst}
use Rattle.place_core.specs.declared.script.Line.{Line}
use Rattle.place_core.specs.declared.script.Piece.{Piece}
use Rattle.place_core.specs.declared.script.Piece.TheVariants.{One}
use Rattle.place_core.specs.DeclaredObjects.{IsDeclared}
use Rattle.target_desc.specs.declared.target.Target.{Target}
use Rattle.target_desc.specs.Target.{IsTarget}
use Rattle.place_core.specs.declared.name.Declared.{Declared}
use Rattle.work_lang.specs.Workload.{Workload, IsWork, AreDeclared, LineStands, PieceStands, written_lines, lines_written, calls_made}
use Rattle.work_lang.specs.Generated.{many_fits, many_of, generated_target, generated_objects, call_on, drawn_line, generator_of, after_words, script_from, scripts_from}

-- ---- objects

target_is : IsTarget generated_target
target_is = record { bits = inl refl; some = omega arith; most = omega arith; section = λ e. absurd cc; big = λ e. absurd cc }

objects_declared : AreDeclared [] generated_objects
objects_declared = (refl, refl, (refl, refl, (refl, refl, (refl, refl, (refl, refl, (refl, refl, (refl, refl, (refl, refl, tt))))))))

objects_sound : AllByRecursion IsDeclared generated_objects
objects_sound = (((λ e. absurd cc), omega arith), (((λ e. absurd cc), omega arith), (((λ e. absurd cc), omega arith), (((λ e. absurd cc), omega arith), (((λ e. absurd cc), omega arith), (((λ e. absurd cc), omega arith), (((λ e. absurd cc), omega arith), (((λ e. absurd cc), omega arith), tt))))))))

-- ---- lines

abbrev line_on : ℕ → ℕ → Line
line_on number bits = record { call = call_on number bits; object = number; success = SeqCst; failure = None }

line_stands : (number bits : ℕ) → number < 8 → LineStands 1 generated_objects (line_on number bits)
line_stands zero bits low = (((omega arith, inl refl), tt, refl), λ e. absurd cc)
line_stands (suc zero) bits low = (((omega arith, inl refl), tt, refl), λ e. absurd cc)
line_stands (suc (suc zero)) bits low = (((omega arith, refl), tt, refl), λ e. absurd cc)
line_stands (suc (suc (suc zero))) bits low = (((omega arith, refl), tt, refl), λ e. absurd cc)
line_stands (suc (suc (suc (suc zero)))) bits low = (((omega arith, λ e. absurd cc), tt, refl), λ e. absurd cc)
line_stands (suc (suc (suc (suc (suc zero))))) bits low = (((omega arith, λ e. absurd cc), tt, refl), λ e. absurd cc)
line_stands (suc (suc (suc (suc (suc (suc zero)))))) bits low = (((omega arith, λ e. absurd cc), tt, refl), λ e. absurd cc)
line_stands (suc (suc (suc (suc (suc (suc (suc zero))))))) bits low = (((omega arith, inl refl), tt, refl), λ e. absurd cc)
line_stands (suc (suc (suc (suc (suc (suc (suc (suc n)))))))) bits low = absurd (omega arith)

abbrev pieces_of : List ℕ → List Piece
pieces_of words = map (λ word. One (drawn_line word)) words

pieces_stand : (words : List ℕ) → AllByRecursion (PieceStands 1 generated_objects) (pieces_of words)
pieces_stand [] = tt
pieces_stand (word ∷ words) = (line_stands (word % 8) (word / 8) (omega arith), pieces_stand words)

-- ---- counts

length-first_words : (k : ℕ) (g : Lcg) → length (first_words pcg64 k g) ≡ k
unfolding first_words
length-first_words zero g = refl
length-first_words (suc k) g = ap suc (length-first_words k (pcg64 g).1)

written : (words : List ℕ) → lines_written (pieces_of words) ≡ length words
written [] = refl
written (word ∷ words) = omega (arith, sum_by-cons written_lines (One (drawn_line word)) (pieces_of words), written words)

made : (words : List ℕ) → calls_made (pieces_of words) ≡ length words
made [] = refl
made (word ∷ words) = ap suc (made words)

length-scripts_from : (threads calls : ℕ) (g : Lcg) → length (scripts_from threads calls g) ≡ threads
length-scripts_from zero calls g = refl
length-scripts_from (suc threads) calls g = ap suc (length-scripts_from threads calls (after_words calls g))

each_script : (P : List Piece → Type 0) (threads calls : ℕ) (g : Lcg) → ((h : Lcg) → P (script_from calls h)) → AllByRecursion P (scripts_from threads calls g)
each_script P zero calls g each = tt
each_script P (suc threads) calls g each = (each g, each_script P threads calls (after_words calls g) each)

sum_of_scripts : (f : List Piece → ℕ) (threads calls : ℕ) (g : Lcg) → ((h : Lcg) → f (script_from calls h) ≡ calls) → sum_by f (scripts_from threads calls g) ≡ threads * calls
sum_of_scripts f zero calls g each = let none : 0 ≡ 0 * calls = omega arith in none
sum_of_scripts f (suc threads) calls g each =
    omega (arith, sum_by-cons f (script_from calls g) (scripts_from threads calls (after_words calls g)), each g, sum_of_scripts f threads calls (after_words calls g) each)

-- ---- the limits

both_true : (a b : Bool) → (a && b) ≡ true → (a ≡ true) × (b ≡ true)
both_true true true e = (refl, refl)
both_true true false e = absurd cc
both_true false b e = absurd cc

pub record AreFew (threads calls : ℕ) : Type 0 where
  pub some : 1 ≤ threads
  pub most : threads ≤ 64
  pub of_each : calls ≤ 65536
  pub in_all : threads * calls ≤ 1000000

pub are_few : (threads calls : ℕ) → many_fits threads calls ≡ true → AreFew threads calls
are_few threads calls fits =
    let one = both_true (nat_le 1 threads && nat_le threads 64 && nat_le calls 65536) (nat_le (threads * calls) 1000000) fits in
    let two = both_true (nat_le 1 threads && nat_le threads 64) (nat_le calls 65536) one.0 in
    let three = both_true (nat_le 1 threads) (nat_le threads 64) two.0 in
    record { some = grind (arith, nat_tests, three.0); most = grind (arith, nat_tests, three.1); of_each = grind (arith, nat_tests, two.1); in_all = grind (arith, nat_tests, one.1) }

pub generated_is_work : (seed threads calls : ℕ) → many_fits threads calls ≡ true → IsWork (many_of seed threads calls)
unfolding many_of
generated_is_work seed threads calls fits =
    let few = are_few threads calls fits in
    let g = generator_of seed in
    let lines : (h : Lcg) → lines_written (script_from calls h) ≡ calls = λ h. written (first_words pcg64 calls h) ∙ length-first_words calls h in
    let made_by : (h : Lcg) → calls_made (script_from calls h) ≡ calls = λ h. made (first_words pcg64 calls h) ∙ length-first_words calls h in
    record {
      version = inl refl;
      target = target_is;
      of_version = λ e. absurd cc;
      names = objects_declared;
      objects = objects_sound;
      pieces = each_script _ threads calls g (λ h. pieces_stand (first_words pcg64 calls h));
      few_objects = omega arith;
      few_threads = omega (arith, few.most, length-scripts_from threads calls g);
      few_lines = each_script _ threads calls g (λ h. omega (arith, few.of_each, lines h));
      few_lines_in_all = omega (arith, few.in_all, sum_of_scripts lines_written threads calls g lines);
      few_calls = each_script _ threads calls g (λ h. omega (arith, few.of_each, made_by h));
      few_calls_in_all = omega (arith, few.in_all, sum_of_scripts calls_made threads calls g made_by);
    }

-- the parts that were made are those of the workload
pub made_is : (seed threads calls : ℕ) (t : Target) (ds : List Declared) (g : Lcg) (ss : List (List Piece)) → t ≡ generated_target → ds ≡ generated_objects → g ≡ generator_of seed → ss ≡ scripts_from threads calls g
    → (let w : Workload = record { version = 1; target = t; objects = ds; scripts = ss } in w) ≡ many_of seed threads calls
unfolding many_of
made_is seed threads calls t ds g ss target objects generator scripts =
    ap (λ (x : Target). let w : Workload = record { version = 1; target = x; objects = ds; scripts = ss } in w) target
    ∙ ap (λ (x : List Declared). let w : Workload = record { version = 1; target = generated_target; objects = x; scripts = ss } in w) objects
    ∙ ap (λ (x : List (List Piece)). let w : Workload = record { version = 1; target = generated_target; objects = generated_objects; scripts = x } in w)
    (scripts ∙ ap (scripts_from threads calls) generator)
