use Rattle.std.proofs.Common.{refl}
use Rattle.whole_run.specs.Ready.{shape_in, scripts_in}
use Rattle.whole_run.proofs.Wholes.{scripts_are, run_of, replies_of, nothing_of, last_of}
use Rattle.whole_run.proofs.whole.ReadyRun.run.Goals as goal

pub returns : goal.returns
returns g c =
    let r = c.args.self in
    let given = scripts_in r in
    let ws = c.run_manned-workers.result.items in
    let scripts = c.take_all_back-scripts.result.scripts.items in
    let p = c.take_all_back-scripts.new.root in
    let q = c.load_all-last.new.root in
    let opens = c.requires.ready.opens in
    let first = c.requires.ready.first in
    let named = c.run_manned-workers.ensures.scripts in
    let kept = c.take_all_back-scripts.ensures.scripts in
    let back = c.take_all_back-scripts.ensures.back in
    let loads = c.load_all-last.ensures in
    let replies = c.take_all_back-scripts.result.replies.items in
    let told = c.take_all_back-scripts.ensures.replies in
    record {
      run = run_of (shape_in r) r.arena first given ws scripts p q c.load_all-last.result opens named kept back loads;
      scripts = scripts_are (shape_in r) r.arena first given ws scripts p q c.load_all-last.result opens named kept back loads;
      replies = λ same. replies_of (shape_in r) r.arena first given ws scripts p q c.load_all-last.result opens named kept back loads replies told (c.run_manned-workers.ensures.kept same);
      none = λ same. nothing_of (shape_in r) r.arena first given ws scripts p q c.load_all-last.result opens named kept back loads replies told (c.run_manned-workers.ensures.none same);
      last = last_of (shape_in r) r.arena first given ws scripts p q c.load_all-last.result opens named kept back loads;
    }
