mod Joined
