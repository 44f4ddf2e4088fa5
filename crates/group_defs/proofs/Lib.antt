pub mod FollowingViews
