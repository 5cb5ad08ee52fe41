-- `texts::hex_digit` meets its contract: the arms are the table, digit by digit.
use mathlib.Core.Path.{◌≡◌, sym}
use native.Mathlib.Omega.{arith}
use Rattle.texts.specs.Digits.{hex_digit}
use Rattle.texts.specs.JoiningLaws.{last-digit}
use Rattle.texts.proofs.hex_digit.Goals as goal

pub returns-in-0 : goal.returns-in-0
unfolding hex_digit
returns-in-0 c = let z : c.args.number ≡ 0 = omega arith in rw z

pub returns-in-1 : goal.returns-in-1
unfolding hex_digit
returns-in-1 c = let z : c.args.number ≡ 1 = omega arith in rw z

pub returns-in-2 : goal.returns-in-2
unfolding hex_digit
returns-in-2 c = let z : c.args.number ≡ 2 = omega arith in rw z

pub returns-in-3 : goal.returns-in-3
unfolding hex_digit
returns-in-3 c = let z : c.args.number ≡ 3 = omega arith in rw z

pub returns-in-4 : goal.returns-in-4
unfolding hex_digit
returns-in-4 c = let z : c.args.number ≡ 4 = omega arith in rw z

pub returns-in-5 : goal.returns-in-5
unfolding hex_digit
returns-in-5 c = let z : c.args.number ≡ 5 = omega arith in rw z

pub returns-in-6 : goal.returns-in-6
unfolding hex_digit
returns-in-6 c = let z : c.args.number ≡ 6 = omega arith in rw z

pub returns-in-7 : goal.returns-in-7
unfolding hex_digit
returns-in-7 c = let z : c.args.number ≡ 7 = omega arith in rw z

pub returns-in-8 : goal.returns-in-8
unfolding hex_digit
returns-in-8 c = let z : c.args.number ≡ 8 = omega arith in rw z

pub returns-in-9 : goal.returns-in-9
unfolding hex_digit
returns-in-9 c = let z : c.args.number ≡ 9 = omega arith in rw z

pub returns-in-10 : goal.returns-in-10
unfolding hex_digit
returns-in-10 c = let z : c.args.number ≡ 10 = omega arith in rw z

pub returns-in-11 : goal.returns-in-11
unfolding hex_digit
returns-in-11 c = let z : c.args.number ≡ 11 = omega arith in rw z

pub returns-in-12 : goal.returns-in-12
unfolding hex_digit
returns-in-12 c = let z : c.args.number ≡ 12 = omega arith in rw z

pub returns-in-13 : goal.returns-in-13
unfolding hex_digit
returns-in-13 c = let z : c.args.number ≡ 13 = omega arith in rw z

pub returns-in-14 : goal.returns-in-14
unfolding hex_digit
returns-in-14 c = let z : c.args.number ≡ 14 = omega arith in rw z

pub returns-in_default : goal.returns-in_default
returns-in_default c = sym (last-digit c.args.number (omega arith))
