use Rattle.std.proofs.Common.{◌∷◌, ap, subst}
use Rattle.bg_builder.specs.Frames.{stack_of, IsStack}
use Rattle.bg_builder.specs.Stack.{others}
use Rattle.bg_builder.proofs.Put.{tensor_on}
use Rattle.bg_builder.proofs.products.put_tensor.Goals as goal

pub returns : goal.returns
returns c =
    subst (λ big. IsStack c.put_parallel.new.lists c.put_parallel.new.frames.items (big ∷ others (stack_of c.args.lists.now c.args.frames.now.items)))
    (tensor_on c.args.lists.now c.args.frames.now.items c.requires.kept c.requires.follow c.requires.outer) c.in_ok-put_parallel.ensures
