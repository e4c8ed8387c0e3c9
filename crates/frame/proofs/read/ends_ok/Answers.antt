-- What is too short for the pattern has one character where the definition asks for two. Assumes nothing.
use Rattle.std.proofs.Common.{◌≡◌, ◌-◌, length, arith}
use Rattle.std.proofs.lemmas.Grind.{common_steps}
use Rattle.frame.specs.Apart.{ends_ok}
use Rattle.frame.proofs.read.ends_ok.Goals as goal

pub returns-in_default : goal.returns-in_default
unfolding ends_ok
returns-in_default c =
    let one : length c.args.f.now - 2 ≡ 0 = omega arith in
    rw one (grind (arith, common_steps))
