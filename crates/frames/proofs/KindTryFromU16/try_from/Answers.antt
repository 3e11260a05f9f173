-- `try_from` meets its contract: each number is read as its kind, and no other is read.
use native.Mathlib.Omega.{arith}
use Rattle.frames.specs.declared.Kind.TheVariants.{Add, Correct, Strike, Move, Step, Look, View, AddInMinutes, CorrectInMinutes}
use Rattle.frames.proofs.ReadKinds.{as_kind, unread}
use Rattle.frames.proofs.KindTryFromU16.try_from.Goals as goal

pub returns-in-1 : goal.returns-in-1
returns-in-1 c = as_kind c.args.number Add c.in-1.is

pub returns-in-2 : goal.returns-in-2
returns-in-2 c = as_kind c.args.number Correct c.in-2.is

pub returns-in-3 : goal.returns-in-3
returns-in-3 c = as_kind c.args.number Strike c.in-3.is

pub returns-in-4 : goal.returns-in-4
returns-in-4 c = as_kind c.args.number Move c.in-4.is

pub returns-in-5 : goal.returns-in-5
returns-in-5 c = as_kind c.args.number Step c.in-5.is

pub returns-in-6 : goal.returns-in-6
returns-in-6 c = as_kind c.args.number Look c.in-6.is

pub returns-in-7 : goal.returns-in-7
returns-in-7 c = as_kind c.args.number View c.in-7.is

pub returns-in-17 : goal.returns-in-17
returns-in-17 c = as_kind c.args.number AddInMinutes c.in-17.is

pub returns-in-18 : goal.returns-in-18
returns-in-18 c = as_kind c.args.number CorrectInMinutes c.in-18.is

pub returns-in_default : goal.returns-in_default
returns-in_default c = unread c.args.number (elim [
  | Add ↦ λ e. omega arith
  | Correct ↦ λ e. omega arith
  | Strike ↦ λ e. omega arith
  | Move ↦ λ e. omega arith
  | Step ↦ λ e. omega arith
  | Look ↦ λ e. omega arith
  | View ↦ λ e. omega arith
  | AddInMinutes ↦ λ e. omega arith
  | CorrectInMinutes ↦ λ e. omega arith
])
