-- Each step of the code is a step of the definition.
use Rattle.std.proofs.Common.{◌∙◌, ap, ap₂, codes}
use Rattle.clap.specs.Words.{App, with_rule}
use Rattle.bg_words.specs.Options.{option_rule, the_app}
use Rattle.bg_words.proofs.options.program.Goals as goal

pub returns : goal.returns
unfolding the_app
returns c =
    let command = c.in_ok-program.ensures.shape c.command.ensures.local ∙ ap₂ with_rule c.plain.ensures c.command.ensures.rule in
    let most = c.in_ok-program-2.ensures ∙ ap (λ (a : App). with_rule a (option_rule (codes "most"))) command in
    let workers = c.in_ok-program-3.ensures ∙ ap (λ (a : App). with_rule a (option_rule (codes "workers"))) most in
    let steps = c.in_ok-program-4.ensures ∙ ap (λ (a : App). with_rule a (option_rule (codes "steps"))) workers in
    let seed = c.in_ok-program-5.ensures ∙ ap (λ (a : App). with_rule a (option_rule (codes "seed"))) steps in
    let size = c.in_ok-program-6.ensures ∙ ap (λ (a : App). with_rule a (option_rule (codes "size"))) seed in
    c.in_ok-program-7.ensures.shape c.explain.ensures.local ∙ ap₂ with_rule size c.explain.ensures.rule
