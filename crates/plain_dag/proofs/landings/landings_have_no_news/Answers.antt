use Rattle.plain_dag.proofs.Landing.{lands-without-news, lands-with-same-reads}
use Rattle.plain_dag.proofs.landings.landings_have_no_news.Goals as goal

pub returns-clause-news : goal.returns-clause-news
returns-clause-news c = lands-without-news

pub returns-clause-reads : goal.returns-clause-reads
returns-clause-reads c = lands-with-same-reads
