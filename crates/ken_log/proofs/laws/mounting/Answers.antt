use Rattle.ken_log.proofs.LogMounts.{log_mounts, short_mounts}
use Rattle.ken_log.proofs.Restarts.{restart_mounts}
use Rattle.ken_log.proofs.laws.mounting.Goals as goal

pub returns-clause-lies : goal.returns-clause-lies
returns-clause-lies c = log_mounts

pub returns-clause-short : goal.returns-clause-short
returns-clause-short c = short_mounts

pub returns-clause-restarted : goal.returns-clause-restarted
returns-clause-restarted c = restart_mounts
