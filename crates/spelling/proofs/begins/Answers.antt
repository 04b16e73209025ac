-- `spelling::begins`: a key begins a text just where something stands behind it.
use Rattle.spelling.proofs.Texts.{behind_begun}
use Rattle.spelling.proofs.begins.Goals as goal

pub returns : goal.returns
returns c = rw c.starts_with.ensures.value (behind_begun c.args.key.now c.args.text.now)
