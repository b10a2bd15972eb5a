-- The items of a workload lead from the start to its state.
use Rattle.std.proofs.Common.{◌≡◌, ℕ, ◌+◌, ◌*◌, ◌≤◌, List, [], ◌∷◌, ◌++◌, length, map, Option, Some, None, Ok, refl, sym, ap, subst, ◌∙◌, arith, ◌⊎◌, inl, inr, append_assoc, mul-add, mul-suc, mul-zero}
use Rattle.std.specs.List.{flat_map, sum_by, AllByRecursion}
use Rattle.std.proofs.lemmas.List.{append-nil, length-append}
use Rattle.std.proofs.lemmas.List.Sums.{sum_by_push, sum_by-cons}
use Rattle.std.proofs.lemmas.List.Concat.{flat_map-cons}
use Rattle.target_desc.specs.declared.target.Target.{Target}
use Rattle.place_core.specs.declared.name.Declared.{Declared}
use Rattle.place_core.specs.declared.script.Line.{Line}
use Rattle.place_core.specs.declared.script.Piece.{Piece}
use Rattle.place_core.specs.declared.script.Piece.TheVariants.{One, Block}
use Rattle.place_core.specs.Pieces.{piece_lines}
use Rattle.work_lang.specs.declared.item.Item.{Item}
use Rattle.work_lang.specs.declared.item.Item.TheVariants as items
use Rattle.work_lang.specs.declared.item.OpenBlock.{OpenBlock}
use Rattle.work_lang.specs.declared.item.Awaits.{Awaits}
use Rattle.work_lang.specs.declared.item.Awaits.TheVariants as awaits
use Rattle.work_lang.specs.Limits.{most_threads, limits_of}
use Rattle.place_core.specs.DeclaredObjects.{IsDeclared}
use Rattle.work_lang.specs.Workload.{Workload, AreDeclared, LineStands, PieceStands, written_lines, lines_written, calls_made, IsWork}
use Rattle.work_lang.specs.Reading.{State, start, ended}
use Rattle.work_lang.specs.Spelling.{IsSaid, Pairs, piece_items, thread_items, items_of}
use Rattle.work_lang.proofs.Scripts.{IsWithin, within_less, within_room, written_more, made_more, made_by_block, written_both, made_both, so_far}
use Rattle.work_lang.proofs.Walks.{Walk}

abbrev at_object : ℕ → Target → List Declared → State
at_object version target objects = record { awaits = awaits.Object; version = version; target = target; objects = objects; scripts = []; pieces = []; block = None }

abbrev at_thread : ℕ → Target → Awaits → List Declared → List (List Piece) → State
at_thread version target a objects scripts = record { awaits = a; version = version; target = target; objects = objects; scripts = scripts; pieces = []; block = None }

abbrev in_thread : ℕ → Target → List Declared → List (List Piece) → List Piece → Option OpenBlock → State
in_thread version target objects scripts pieces block = record { awaits = awaits.Call; version = version; target = target; objects = objects; scripts = scripts; pieces = pieces; block = block }

abbrev opened : ℕ → List Line → Option OpenBlock
opened times lines = Some (record { times = times; lines = lines })

-- the lines of further items lead on from a state
abbrev GoesOn : List Declared → List Item → State → State → Type 0
GoesOn objects rest s t = (wss : List (List (List ℕ))) → Pairs (IsSaid objects) rest wss → Walk s rest wss t

objects_walk : (version : ℕ) (target : Target) (all : List Declared) (before objects : List Declared) (rest : List Item) (wss : List (List (List ℕ))) (t : State) → AreDeclared before objects → AllByRecursion IsDeclared objects → length before + length objects ≤ (limits_of version).objects
    → Pairs (IsSaid all) (map items.Object objects ++ rest) wss → GoesOn all rest (at_object version target (before ++ objects)) t → Walk (at_object version target before) (map items.Object objects ++ rest) wss t
objects_walk version target all before [] rest wss t ok fits few pairs go = subst (λ (objects : List Declared). Walk (at_object version target objects) rest wss t) (append-nil before) (go wss pairs)
objects_walk version target all before (d ∷ ds) rest [] t ok fits few pairs go = absurd pairs
objects_walk version target all before (d ∷ ds) rest (ws ∷ wss) t ok fits few pairs go =
    (record { allowed = (refl, omega arith, ok.0, ok.1, fits.0); said = pairs.0 }, objects_walk version target all (before ++ d ∷ []) ds rest wss t ok.2 fits.1 (omega (arith, length-append before (d ∷ []))) pairs.1 (λ wss p. subst (λ (objects : List Declared). Walk (at_object version target objects) rest wss t) (sym (append_assoc before (d ∷ []) ds)) (go wss p)))

-- ---- blocks

-- a block with a line more and others is within the limits, so the line has room
block_has_room : (times : ℕ) (before ls : List Line) (l : Line) (pieces : List Piece) (version : ℕ) (scripts : List (List Piece)) → IsWithin version scripts (lines_written pieces + length (before ++ l ∷ ls)) (calls_made pieces + times * length (before ++ l ∷ ls)) → IsWithin version scripts (lines_written (so_far pieces (opened times before)) + 1) (calls_made (so_far pieces (opened times before)) + times)
block_has_room times before ls l pieces version scripts within =
    let long : length (before ++ l ∷ ls) ≡ length before + 1 + length ls = omega (arith, length-append before (l ∷ ls)) in
    let product : times * length (before ++ l ∷ ls) ≡ times * length before + times + times * length ls = ap (λ (n : ℕ). times * n) long ∙ times_parts times (length before) (length ls) in
    within_less version scripts _ _ _ _ (omega (arith, long, written_more pieces (Block times before))) (omega (arith, product, made_more pieces (Block times before), made_by_block times before)) within
  where
    times_parts : (t n m : ℕ) → t * (n + 1 + m) ≡ t * n + t + t * m
    times_parts t n m = mul-add t (n + 1) m ∙ omega (arith, mul-add t n 1, mul-suc t 0, mul-zero t)

block_walk : (version : ℕ) (target : Target) (objects : List Declared) (scripts : List (List Piece)) (pieces : List Piece) (times : ℕ) (before lines : List Line) (rest : List Item) (wss : List (List (List ℕ))) (t : State) → AllByRecursion (LineStands version objects) lines → IsWithin version scripts (lines_written pieces + length (before ++ lines)) (calls_made pieces + times * length (before ++ lines))
    → Pairs (IsSaid objects) (map items.Call lines ++ rest) wss → GoesOn objects rest (in_thread version target objects scripts pieces (opened times (before ++ lines))) t → Walk (in_thread version target objects scripts pieces (opened times before)) (map items.Call lines ++ rest) wss t
block_walk version target objects scripts pieces times before [] rest wss t stand within pairs go = subst (λ (lines : List Line). Walk (in_thread version target objects scripts pieces (opened times lines)) rest wss t) (append-nil before) (go wss pairs)
block_walk version target objects scripts pieces times before (l ∷ ls) rest [] t stand within pairs go = absurd pairs
block_walk version target objects scripts pieces times before (l ∷ ls) rest (ws ∷ wss) t stand within pairs go =
    let more : (before ++ l ∷ []) ++ ls ≡ before ++ l ∷ ls = append_assoc before (l ∷ []) ls in
    let room = within_room (in_thread version target objects scripts pieces (opened times before)) (block_has_room times before ls l pieces version scripts within) in
    (record { allowed = (refl, room, stand.0); said = pairs.0 }, block_walk version target objects scripts pieces times (before ++ l ∷ []) ls rest wss t stand.1 (subst (λ (lines : List Line). IsWithin version scripts (lines_written pieces + length lines) (calls_made pieces + times * length lines)) (sym more) within) pairs.1 (λ wss p. subst (λ (lines : List Line). Walk (in_thread version target objects scripts pieces (opened times lines)) rest wss t) (sym more) (go wss p)))

-- ---- pieces

-- the lines of one piece lead to the piece
piece_walk : (version : ℕ) (target : Target) (objects : List Declared) (scripts : List (List Piece)) (pieces : List Piece) (p : Piece) (rest : List Item) (wss : List (List (List ℕ))) (t : State) → PieceStands version objects p → IsWithin version scripts (lines_written pieces + written_lines p) (calls_made pieces + length (piece_lines p))
    → Pairs (IsSaid objects) (piece_items p ++ rest) wss → GoesOn objects rest (in_thread version target objects scripts (pieces ++ p ∷ []) None) t → Walk (in_thread version target objects scripts pieces None) (piece_items p ++ rest) wss t
piece_walk version target objects scripts pieces (One l) rest [] t stands within pairs go = absurd pairs
piece_walk version target objects scripts pieces (One l) rest (ws ∷ wss) t stands within pairs go =
    let room = within_room (in_thread version target objects scripts pieces None) (subst (λ (ps : List Piece). IsWithin version scripts (lines_written ps + 1) (calls_made ps + 1)) (sym (append-nil pieces)) within) in
    (record { allowed = (refl, room, stands); said = pairs.0 }, go wss pairs.1)
piece_walk version target objects scripts pieces (Block times lines) rest [] t stands within pairs go = absurd pairs
piece_walk version target objects scripts pieces (Block times lines) rest (ws ∷ wss) t stands within pairs go =
    let items-are : (map items.Call lines ++ items.End ∷ []) ++ rest ≡ map items.Call lines ++ items.End ∷ rest = append_assoc (map items.Call lines) (items.End ∷ []) rest in
    let open_state : State = in_thread version target objects scripts pieces (opened times []) in
    let inside = subst (λ (n : ℕ). IsWithin version scripts (lines_written pieces + length lines) (calls_made pieces + n)) (made_by_block times lines) within in
    (record { allowed = (refl, stands.0, refl, stands.1, stands.2); said = pairs.0 }, subst (λ (is : List Item). Walk open_state is wss t) (sym items-are) (block_walk version target objects scripts pieces times [] lines (items.End ∷ rest) wss t stands.3 inside (subst (λ (is : List Item). Pairs (IsSaid objects) is wss) items-are pairs.1) by_end))
  where
    by_end : GoesOn objects (items.End ∷ rest) (in_thread version target objects scripts pieces (opened times lines)) t
    by_end [] q = absurd q
    by_end (ws ∷ wss) q = (record { allowed = refl; said = q.0 }, go wss q.1)

pieces_walk : (version : ℕ) (target : Target) (objects : List Declared) (scripts : List (List Piece)) (before pieces : List Piece) (rest : List Item) (wss : List (List (List ℕ))) (t : State) → AllByRecursion (PieceStands version objects) pieces → IsWithin version scripts (lines_written (before ++ pieces)) (calls_made (before ++ pieces))
    → Pairs (IsSaid objects) (flat_map piece_items pieces ++ rest) wss → GoesOn objects rest (in_thread version target objects scripts (before ++ pieces) None) t → Walk (in_thread version target objects scripts before None) (flat_map piece_items pieces ++ rest) wss t
pieces_walk version target objects scripts before [] rest wss t stand within pairs go = subst (λ (pieces : List Piece). Walk (in_thread version target objects scripts pieces None) rest wss t) (append-nil before) (go wss pairs)
pieces_walk version target objects scripts before (p ∷ ps) rest wss t stand within pairs go =
    let items-are : flat_map piece_items (p ∷ ps) ++ rest ≡ piece_items p ++ (flat_map piece_items ps ++ rest) = ap (λ (is : List Item). is ++ rest) (flat_map-cons piece_items p ps) ∙ append_assoc (piece_items p) (flat_map piece_items ps) rest in
    let more : (before ++ p ∷ []) ++ ps ≡ before ++ p ∷ ps = append_assoc before (p ∷ []) ps in
    let all = subst (λ (pieces : List Piece). IsWithin version scripts (lines_written pieces) (calls_made pieces)) (sym more) within in
    let one : IsWithin version scripts (lines_written before + written_lines p) (calls_made before + length (piece_lines p)) = within_less version scripts _ _ _ _ (omega (arith, written_both (before ++ p ∷ []) ps, written_more before p)) (omega (arith, made_both (before ++ p ∷ []) ps, made_more before p)) all in
    subst (λ (is : List Item). Walk (in_thread version target objects scripts before None) is wss t) (sym items-are) (piece_walk version target objects scripts before p (flat_map piece_items ps ++ rest) wss t stand.0 one (subst (λ (is : List Item). Pairs (IsSaid objects) is wss) items-are pairs)
    (λ wss q. pieces_walk version target objects scripts (before ++ p ∷ []) ps rest wss t stand.1 all q (λ wss r. subst (λ (pieces : List Piece). Walk (in_thread version target objects scripts pieces None) rest wss t) (sym more) (go wss r))))

-- ---- threads

-- where threads may come
abbrev TakesThreads : Awaits → Type 0
TakesThreads a = (a ≡ awaits.Object) ⊎ (a ≡ awaits.Thread)

-- what is awaited after these threads
abbrev pub after_threads : Awaits → List (List Piece) → Awaits
after_threads a [] = a
after_threads a (script ∷ scripts) = after_threads awaits.Thread scripts

after_takes : (a : Awaits) (scripts : List (List Piece)) → TakesThreads a → TakesThreads (after_threads a scripts)
after_takes a [] h = h
after_takes a (script ∷ scripts) h = after_takes awaits.Thread scripts (inr refl)

items_more : (script : List Piece) (scripts : List (List Piece)) → flat_map thread_items (script ∷ scripts) ≡ items.Thread ∷ (flat_map piece_items script ++ (items.End ∷ flat_map thread_items scripts))
items_more script scripts = flat_map-cons thread_items script scripts ∙ ap (λ (is : List Item). items.Thread ∷ is) (append_assoc (flat_map piece_items script) (items.End ∷ []) (flat_map thread_items scripts))

-- scripts that stand and pass no limit, after others
record Follow (version : ℕ) (objects : List Declared) (before scripts : List (List Piece)) : Type 0 where
  threads : length before + length scripts ≤ most_threads
  lines_in_all : sum_by lines_written before + sum_by lines_written scripts ≤ (limits_of version).lines_in_all
  calls_in_all : sum_by calls_made before + sum_by calls_made scripts ≤ (limits_of version).calls_in_all
  lines : AllByRecursion (λ (script : List Piece). lines_written script ≤ (limits_of version).lines) scripts
  calls : AllByRecursion (λ (script : List Piece). calls_made script ≤ (limits_of version).calls) scripts
  stand : AllByRecursion (λ (script : List Piece). AllByRecursion (PieceStands version objects) script) scripts

follow_on : (version : ℕ) (objects : List Declared) (before : List (List Piece)) (script : List Piece) (scripts : List (List Piece)) → Follow version objects before (script ∷ scripts) → Follow version objects (before ++ script ∷ []) scripts
follow_on version objects before script scripts f = record {
  threads = omega (arith, f.threads, length-append before (script ∷ []));
  lines_in_all = omega (arith, f.lines_in_all, sum_by_push lines_written before script, sum_by-cons lines_written script scripts);
  calls_in_all = omega (arith, f.calls_in_all, sum_by_push calls_made before script, sum_by-cons calls_made script scripts);
  lines = f.lines.1;
  calls = f.calls.1;
  stand = f.stand.1;
}

follow_first : (version : ℕ) (objects : List Declared) (before : List (List Piece)) (script : List Piece) (scripts : List (List Piece)) → Follow version objects before (script ∷ scripts) → IsWithin version before (lines_written script) (calls_made script)
follow_first version objects before script scripts f = record { lines = f.lines.0; calls = f.calls.0; lines_in_all = omega (arith, f.lines_in_all, sum_by-cons lines_written script scripts); calls_in_all = omega (arith, f.calls_in_all, sum_by-cons calls_made script scripts) }

threads_walk : (version : ℕ) (target : Target) (a : Awaits) (objects : List Declared) (before scripts : List (List Piece)) (wss : List (List (List ℕ))) → TakesThreads a → Follow version objects before scripts
    → Pairs (IsSaid objects) (flat_map thread_items scripts) wss → Walk (at_thread version target a objects before) (flat_map thread_items scripts) wss (at_thread version target (after_threads a scripts) objects (before ++ scripts))
threads_walk version target a objects before [] [] waits follow pairs = ap (at_thread version target a objects) (sym (append-nil before))
threads_walk version target a objects before [] (ws ∷ wss) waits follow pairs = absurd pairs
threads_walk version target a objects before (script ∷ scripts) wss waits follow pairs =
    subst (λ (is : List Item). Walk (at_thread version target a objects before) is wss last) (sym (items_more script scripts)) (by_head wss (subst (λ (is : List Item). Pairs (IsSaid objects) is wss) (items_more script scripts) pairs) (λ wss q. threads_walk version target awaits.Thread objects (before ++ script ∷ []) scripts wss (inr refl) (follow_on version objects before script scripts follow) q))
  where
    last : State
    last = at_thread version target (after_threads awaits.Thread scripts) objects (before ++ script ∷ scripts)

    by_head : (wss : List (List (List ℕ))) → Pairs (IsSaid objects) (items.Thread ∷ (flat_map piece_items script ++ (items.End ∷ flat_map thread_items scripts))) wss
        → ((wss : List (List (List ℕ))) → Pairs (IsSaid objects) (flat_map thread_items scripts) wss → Walk (at_thread version target awaits.Thread objects (before ++ script ∷ [])) (flat_map thread_items scripts) wss (at_thread version target (after_threads awaits.Thread scripts) objects ((before ++ script ∷ []) ++ scripts)))
        → Walk (at_thread version target a objects before) (items.Thread ∷ (flat_map piece_items script ++ (items.End ∷ flat_map thread_items scripts))) wss last
    by_head [] p again = absurd p
    by_head (ws ∷ wss) p again =
        (record { allowed = (waits, omega (arith, follow.threads)); said = p.0 }, pieces_walk version target objects before [] script (items.End ∷ flat_map thread_items scripts) wss last follow.stand.0 (follow_first version objects before script scripts follow) p.1 by_end)
      where
        by_end : GoesOn objects (items.End ∷ flat_map thread_items scripts) (in_thread version target objects before script None) last
        by_end [] q = absurd q
        by_end (ws ∷ wss) q = (record { allowed = refl; said = q.0 }, subst (λ (t : List (List Piece)). Walk (at_thread version target awaits.Thread objects (before ++ script ∷ [])) (flat_map thread_items scripts) wss (at_thread version target (after_threads awaits.Thread scripts) objects t)) (append_assoc before (script ∷ []) scripts) (again wss q.1))

-- the state after a workload's lines
abbrev pub state_of : Workload → State
state_of w = at_thread w.version w.target (after_threads awaits.Object w.scripts) w.objects w.scripts

work_follows : (w : Workload) → IsWork w → Follow w.version w.objects [] w.scripts
work_follows w ok = record { threads = omega (arith, ok.few_threads); lines_in_all = omega (arith, ok.few_lines_in_all); calls_in_all = omega (arith, ok.few_calls_in_all); lines = ok.few_lines; calls = ok.few_calls; stand = ok.pieces }

pub work_walk : (w : Workload) (wss : List (List (List ℕ))) → IsWork w → Pairs (IsSaid w.objects) (items_of w) wss → Walk start (items_of w) wss (state_of w)
work_walk w [] ok pairs = absurd pairs
work_walk w (v ∷ []) ok pairs = absurd pairs.1
work_walk w (v ∷ t ∷ wss) ok pairs =
    (record { allowed = (refl, ok.version); said = pairs.0 }, (record { allowed = (refl, ok.target, ok.of_version); said = pairs.1.0 }, objects_walk w.version w.target w.objects [] w.objects (flat_map thread_items w.scripts) wss (state_of w) ok.names ok.objects (omega (arith, ok.few_objects)) pairs.1.1 (λ wss p. threads_walk w.version w.target awaits.Object w.objects [] w.scripts wss (inl refl) (work_follows w ok) p)))

pub work_ended : (w : Workload) (n : ℕ) → ended (state_of w).awaits (state_of w) n ≡ Ok w
work_ended w n = by (after_threads awaits.Object w.scripts) (after_takes awaits.Object w.scripts (inl refl))
  where
    by : (a : Awaits) → TakesThreads a → ended a (state_of w) n ≡ Ok w
    by a (inl e) = rw e refl
    by a (inr e) = rw e refl
