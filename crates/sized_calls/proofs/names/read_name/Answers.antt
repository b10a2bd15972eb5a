use Rattle.std.proofs.Common.{rules}
use Rattle.sized_calls.proofs.NameReading.{exactly}
use Rattle.sized_calls.proofs.names.read_name.Goals as goal

pub returns-in_err-words-clause-exact : goal.returns-in_err-words-clause-exact
returns-in_err-words-clause-exact c = exactly c.args.text.now _ (search rules)

pub returns-in_err-operation-clause-exact : goal.returns-in_err-operation-clause-exact
returns-in_err-operation-clause-exact c = exactly c.args.text.now _ (search rules)

pub returns-clause-exact : goal.returns-clause-exact
returns-clause-exact c = exactly c.args.text.now _ (search rules)
