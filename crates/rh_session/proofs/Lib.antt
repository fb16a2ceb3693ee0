pub mod LineLemmas
pub mod FeedLemmas
pub mod RunLemmas
