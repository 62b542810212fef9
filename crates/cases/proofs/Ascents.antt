-- The tests of every call stand in the order of their numbers, so each call answers the smallest refusal that applies.
-- Assumes nothing.
use Rattle.std.proofs.Common.{arith}
use Rattle.division.proofs.Smallest.{smallest_standing}
use Rattle.cases.specs.Cases.{case_refusal_number, sheet_refusal_number, admit_tests, amend_tests, fund_tests, press_tests, divide_tests, draw_tests, sheet_tests, sign_tests, SmallestRefusals}

pub smallest_refusals : SmallestRefusals
smallest_refusals = record {
  admit = λ v number amount class. smallest_standing case_refusal_number (admit_tests v number amount class) (grind arith);
  amend = λ v number amount. smallest_standing case_refusal_number (amend_tests v number amount) (grind arith);
  fund = λ v amount. smallest_standing case_refusal_number (fund_tests v amount) (grind arith);
  press = λ v letters. smallest_standing case_refusal_number (press_tests v letters) (grind arith);
  divide = λ v. smallest_standing case_refusal_number (divide_tests v) (grind arith);
  draw = λ v. smallest_standing case_refusal_number (draw_tests v) (grind arith);
  tally_and_return = λ v sheet. smallest_standing sheet_refusal_number (sheet_tests v sheet) (grind arith);
  sign = λ v sheet room. smallest_standing sheet_refusal_number (sign_tests v sheet room) (grind arith);
}
