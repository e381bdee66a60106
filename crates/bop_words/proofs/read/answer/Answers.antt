use Rattle.std.proofs.Common.{List, ℕ, ◌∷◌, map, string_bytes, sym, subst}
use Rattle.bop_words.specs.CommandTable.{word_of}
use Rattle.bop_words.specs.private.ReadOptions.{Answers}
use Rattle.bop_words.proofs.CommandRequests.{answered}
use Rattle.bop_words.proofs.read.answer.Goals as goal

pub returns-in-Run : goal.returns-in-Run
returns-in-Run c = answered _ _ _ c.run.result c.in-Run.is c.run.ensures

pub returns-in-Demo : goal.returns-in-Demo
returns-in-Demo c = answered _ _ _ c.demo.result c.in-Demo.is c.demo.ensures

pub returns-in-Seq : goal.returns-in-Seq
returns-in-Seq c = answered _ _ _ c.seq.result c.in-Seq.is c.seq.ensures

pub returns-in-Mean : goal.returns-in-Mean
returns-in-Mean c = answered _ _ _ c.mean.result c.in-Mean.is c.mean.ensures

pub returns-in-Check : goal.returns-in-Check
returns-in-Check c = answered _ _ _ c.check.result c.in-Check.is c.check.ensures

pub returns-in-Replay : goal.returns-in-Replay
returns-in-Replay c = answered _ _ _ c.replay.result c.in-Replay.is c.replay.ensures

pub returns-in-Source : goal.returns-in-Source
returns-in-Source c = answered _ _ _ c.source.result c.in-Source.is c.source.ensures
